use Rattle.std.proofs.Common.{◌≡◌, take}
use Rattle.wse_path.specs.PathMap.{put_each}
use Rattle.wse_show.proofs.files.put_versions.Given as goal

abbrev pub invariant-loop-index : goal.invariant-loop-index
invariant-loop-index l = l.rows.entries ≡ put_each (take l.index l.versions.entries) l.initial.rows.entries
