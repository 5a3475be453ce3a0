use Rattle.std.proofs.Common.{◌≡◌}
use Rattle.wse_path.specs.PathMap.{put_each}
use Rattle.wse_overlay.specs.Overlay.{without_content}
use Rattle.wse_overlay.proofs.difference.take_away.Given as goal

abbrev pub invariant-loop-path : goal.invariant-loop-path
invariant-loop-path l = put_each (without_content l.path-iterator) l.all.entries ≡ put_each (without_content l.fn.paths.keys) l.initial.all.entries
