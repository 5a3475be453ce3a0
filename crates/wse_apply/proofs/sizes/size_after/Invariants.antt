use Rattle.std.proofs.Common.{◌≡◌, take}
use Rattle.wse_apply.specs.Sizes.{size_after}
use Rattle.wse_apply.proofs.sizes.size_after.Given as goal

abbrev pub invariant-loop-change : goal.invariant-loop-change
invariant-loop-change l = l.all ≡ size_after (take l.change-index l.changes)
