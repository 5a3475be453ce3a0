use Rattle.std.proofs.Common.{◌≡◌}
use Rattle.wse_path.specs.PathMap.{put_each}
use Rattle.wse_overlay.specs.Overlay.{marked}
use Rattle.wse_overlay.proofs.lookups.add_all.Given as goal

abbrev pub invariant-loop-path : goal.invariant-loop-path
invariant-loop-path l = put_each (marked l.path-iterator.rest.items) (marked l.all.keys) ≡ put_each (marked l.fn.paths.items) (marked l.initial.all.keys)
