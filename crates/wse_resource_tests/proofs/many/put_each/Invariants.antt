use Rattle.std.proofs.Common.{◌≡◌}
use Rattle.wse_resource_tests.proofs.many.put_each.Given as goal

abbrev pub invariant-loop-path : goal.invariant-loop-path
invariant-loop-path l = l.overlay.base ≡ l.initial.overlay.base
