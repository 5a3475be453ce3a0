use Rattle.std.proofs.Common.{◌≡◌, take}
use Rattle.wse_apply.specs.Sizes.{size_before}
use Rattle.wse_apply.proofs.sizes.size_before.Given as goal

abbrev pub invariant-loop-change : goal.invariant-loop-change
invariant-loop-change l = l.all ≡ size_before (take l.change-index l.changes)
