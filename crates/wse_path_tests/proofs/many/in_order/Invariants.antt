use Rattle.std.proofs.Common.{◌≡◌, ◌++◌}
use Rattle.wse_path_tests.proofs.many.in_order.Given as goal

abbrev pub invariant-loop-path : goal.invariant-loop-path
invariant-loop-path l = l.bumps.items ++ l.path-iterator ≡ l.fn.raises.entries
