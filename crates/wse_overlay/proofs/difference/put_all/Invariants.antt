use Rattle.std.proofs.Common.{◌≡◌}
use Rattle.wse_path.specs.PathMap.{put_each}
use Rattle.wse_overlay.specs.Overlay.{with_content}
use Rattle.wse_overlay.proofs.difference.put_all.Given as goal

abbrev pub invariant-loop-path : goal.invariant-loop-path
invariant-loop-path l = put_each (with_content l.path-iterator) l.all.entries ≡ put_each (with_content l.fn.files.entries) l.initial.all.entries
