use Rattle.std.proofs.Common.{◌≡◌, map, take}
use Rattle.wse_path.proofs.path_map.PathMap.paths.Given as goal

abbrev pub invariant-loop-entry : goal.invariant-loop-entry
invariant-loop-entry g l = l.paths.items ≡ map (λ e. e.0) (take l.entry-index l.entry-items)
