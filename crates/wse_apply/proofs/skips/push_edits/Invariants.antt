use Rattle.std.proofs.Common.{◌≡◌, ◌++◌, drop}
use Rattle.wse_apply.specs.Skips.{skipped_edits}
use Rattle.wse_apply.proofs.skips.push_edits.Given as goal

abbrev pub invariant-loop-index : goal.invariant-loop-index
invariant-loop-index l = l.skips.items ++ skipped_edits l.operation l.index (drop l.index l.edits) ≡ l.initial.skips.items ++ skipped_edits l.operation 0 l.edits
