use Rattle.std.proofs.Common.{◌≡◌, take}
use Rattle.wse_path.specs.PathMap.{put_each}
use Rattle.wse_show.specs.Files.{with_versions}
use Rattle.wse_show.proofs.files.put_files.Given as goal

abbrev pub invariant-loop-index : goal.invariant-loop-index
invariant-loop-index l = l.rows.entries ≡ put_each (with_versions l.versions.entries (take l.index l.tree.files)) l.initial.rows.entries
