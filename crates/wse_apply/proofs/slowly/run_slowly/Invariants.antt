use Rattle.std.proofs.Common.{◌≡◌, drop}
use Rattle.wse_apply.proofs.CourseLemmas.{ended, later}
use Rattle.wse_apply.proofs.slowly.run_slowly.Given as goal

abbrev pub invariant-loop-index : goal.invariant-loop-index
invariant-loop-index l = later l.index (ended l.setting l.current.files (drop l.index l.operations)) ≡ ended l.setting l.tree.files l.operations
