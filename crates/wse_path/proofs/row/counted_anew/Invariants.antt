use Rattle.std.proofs.Common.{◌≡◌, take}
use Rattle.wse_path.specs.PathMap.{weight_of, capped}
use Rattle.wse_path.proofs.row.counted_anew.Given as goal

abbrev pub invariant-loop-entry : goal.invariant-loop-entry
invariant-loop-entry g l = l.sum ≡ capped (weight_of g.V.Weighed.weight (take l.entry-index l.all))
