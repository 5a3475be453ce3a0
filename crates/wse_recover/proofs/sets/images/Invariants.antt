use Rattle.std.proofs.Common.{◌≡◌}
use Rattle.wse_stacks.specs.Image.{images}
use Rattle.wse_recover.proofs.sets.images.Given as goal

abbrev pub invariant-loop-element : goal.invariant-loop-element
invariant-loop-element l = l.all.items ≡ images l.effect l.yielded
