use Rattle.std.proofs.Common.{◌≡◌, ◌++◌, drop}
use Rattle.wse_apply.specs.Skips.{skips_from}
use Rattle.wse_apply.proofs.skips.skips_of.Given as goal

abbrev pub invariant-loop-index : goal.invariant-loop-index
invariant-loop-index l = l.skips.items ++ skips_from l.index (drop l.index l.operations) ≡ skips_from 0 l.operations
