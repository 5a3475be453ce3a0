use Rattle.std.proofs.Common.{◌≡◌, take}
use Rattle.wse_stacks.specs.Image.{images}
use Rattle.wse_stacks.proofs.image.images.Given as goal

abbrev pub invariant-loop-entry : goal.invariant-loop-entry
invariant-loop-entry l = l.all ≡ images l.effect (take l.entry-index l.entries)
