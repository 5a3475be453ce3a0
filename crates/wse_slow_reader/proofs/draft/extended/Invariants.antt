use Rattle.std.proofs.Common.{◌≡◌, ◌++◌}
use Rattle.wse_slow_reader.proofs.draft.extended.Given as goal

abbrev pub invariant-loop-content : goal.invariant-loop-content
invariant-loop-content l = l.all.items ≡ l.initial.all.items ++ l.yielded
