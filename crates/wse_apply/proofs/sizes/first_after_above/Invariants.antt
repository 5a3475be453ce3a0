use Rattle.std.proofs.Common.{◌≡◌, drop}
use Rattle.wse_apply.specs.Sizes.{first_after_above}
use Rattle.wse_apply.proofs.sizes.first_after_above.Given as goal

abbrev pub invariant-loop-change : goal.invariant-loop-change
invariant-loop-change l = first_after_above l.limit (drop l.change-index l.changes) ≡ first_after_above l.limit l.changes
