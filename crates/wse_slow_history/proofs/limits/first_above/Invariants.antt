use Rattle.std.proofs.Common.{◌≡◌, drop}
use Rattle.wse_apply.specs.Limit.{first_above}
use Rattle.wse_slow_history.proofs.limits.first_above.Given as goal

abbrev pub invariant-loop-file : goal.invariant-loop-file
invariant-loop-file l = first_above l.limit (drop l.file-index l.files) ≡ first_above l.limit l.files
