use Rattle.std.proofs.Common.{◌≡◌, drop}
use Rattle.wse_apply.specs.Limit.{first_above}
use Rattle.wse_apply.proofs.limits.first_above.Given as goal

abbrev pub invariant-loop-index : goal.invariant-loop-index
invariant-loop-index l = first_above l.limit (drop l.index l.tree.files) ≡ first_above l.limit l.tree.files
