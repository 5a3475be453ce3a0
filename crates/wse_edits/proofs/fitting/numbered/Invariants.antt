use Rattle.std.proofs.Common.{◌≡◌, take}
use Rattle.wse_edits.specs.Fitting.{numbered_from}
use Rattle.wse_edits.proofs.fitting.numbered.Given as goal

abbrev pub invariant-loop-number : goal.invariant-loop-number
invariant-loop-number l = l.numbered.items ≡ numbered_from 0 (take l.number l.ranges)
