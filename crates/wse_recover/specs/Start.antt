-- The state of a new store, and the limits that a tree may pass at a start.
use Rattle.std.specs.Prelude.{[], map, Option, option_map}
use Rattle.std.specs.Option.{option_or}
use Rattle.wse_path.specs.Tree.{Entries, total_bytes}
use Rattle.wse_path.specs.declared.limits.Limits.{Limits}
use Rattle.wse_path.specs.declared.limits.Hit.{Hit}
use Rattle.wse_path.specs.declared.limits.Which.TheVariants.{Files, FileBytes, TreeBytes}
use Rattle.wse_element.specs.State.{State}
use Rattle.wse_apply.specs.Limit.{hit_by, hit_above, first_above, file_count}

-- A store without records, in which each file has the version 1.
abbrev pub fresh : Entries → State
fresh files = record { files = files; versions = map (λ e. (e.0, 1)) files; records = []; next_id = 1; serial = 0; locks = [] }

-- The first limit that a starting tree passes: files, then bytes of a file, then bytes of all files.
abbrev pub start_hit : Limits → Entries → Option Hit
start_hit limits files =
    option_or (hit_above Files limits.files (file_count files))
    (option_or (option_map (hit_by FileBytes) (first_above limits.file_bytes files))
    (hit_above TreeBytes limits.tree_bytes (total_bytes files)))
