use Rattle.std.proofs.Common.{◌≡◌, ◌++◌}
use Rattle.wse_plain.proofs.moves.push_split.Given as goal

abbrev pub invariant-loop-piece : goal.invariant-loop-piece
invariant-loop-piece l = l.all.items ≡ l.initial.all.items ++ l.yielded
