use Rattle.wse_edits.proofs.FittingLemmas.{IsScanned}
use Rattle.wse_edits.proofs.fitting.follow_below.Given as goal

abbrev pub invariant-loop-range : goal.invariant-loop-range
invariant-loop-range l = IsScanned l.count l.sorted l.range-index l.reach
