use Rattle.std.proofs.Common.{◌≡◌, ◌++◌}
use Rattle.wse_stacks.proofs.image.push_all.Given as goal

abbrev pub invariant-loop-element : goal.invariant-loop-element
invariant-loop-element l = l.all ≡ l.initial.all ++ l.yielded
