-- What a resource operation finds (LSP 3.17, "Resource changes": CreateFile, RenameFile, DeleteFile and their options).
-- The order of the cases is this project's own rule.
use Rattle.std.specs.Prelude.{Bool, not, ◌&&◌, ◌||◌, ◌++◌, map, drop, length, is_some, Option, Some, None, if◌then◌else◌}
use Rattle.std.specs.Prelude.{find as find_item}
use Rattle.std.specs.FinMap.Entries.{where_key}
use Rattle.std.specs.Ordering.{eq_by_cmp}
use Rattle.wse_path.specs.Path.{Path, is_under, refusal}
use Rattle.wse_path.specs.Order.{path_cmp}
use Rattle.wse_path.specs.Tree.{Entries, is_present, is_folder, file_above}
use Rattle.wse_path.specs.declared.operation.ResourceOp.{ResourceOp}
use Rattle.wse_path.specs.declared.operation.ResourceOp.TheVariants.{Create, Rename, Delete}
use Rattle.wse_resource.specs.declared.refused.OpRefused.{OpRefused}
use Rattle.wse_resource.specs.declared.refused.OpRefused.TheVariants.{Exists, IsFolder, Beneath, NotFound, NotEmpty, IntoItself, HoldsSource, PathLimit}

-- What comes of an operation.
pub data Outcome : Type 0 where
  -- The tree stays.
  Nothing : Outcome
  -- The operation is done.
  Done : Outcome
  Refused : (why : OpRefused) → Outcome

-- The first path is the second, or under it.
abbrev pub is_within : Path → Path → Bool
is_within q p = eq_by_cmp path_cmp q p || is_under q p

-- A file or a folder is at the path.
abbrev pub is_there : Entries → Path → Bool
is_there files p = is_present files p || is_folder files p

-- Where a path at or under `from` goes when `from` becomes `to`.
abbrev pub moved : Path → Path → Path → Path
moved from to q = to ++ drop (length from) q

-- The files at and under the path.
abbrev pub files_within : Entries → Path → Entries
files_within files p = where_key path_cmp (λ q. is_within q p) files

-- The first file in path order whose path is none any more when it moves: only a limit of paths can refuse it.
abbrev pub past_limit : Entries → Path → Path → Option Path
past_limit files from to = find_item (λ q. is_some (refusal (moved from to q))) (map (λ e. e.0) (files_within files from))

abbrev pub unless_beneath : Option Path → Outcome → Outcome
unless_beneath (Some file) rest = Refused (Beneath file)
unless_beneath None rest = rest

abbrev pub unless_past_limit : Option Path → Outcome
unless_past_limit (Some from) = Refused (PathLimit from)
unless_past_limit None = Done

-- Something is at the path already.
abbrev pub unless_taken : (taken overwrite ignore : Bool) → Outcome → Outcome
unless_taken taken overwrite ignore rest =
    if taken && not overwrite then (if ignore then Nothing else Refused Exists)
    else rest

abbrev pub create_outcome : Entries → Path → (overwrite ignore : Bool) → Outcome
create_outcome files p overwrite ignore =
    if is_folder files p then Refused IsFolder
    else unless_beneath (file_above files p) (unless_taken (is_present files p) overwrite ignore Done)

abbrev pub rename_outcome : Entries → (from to : Path) → (overwrite ignore : Bool) → Outcome
rename_outcome files from to overwrite ignore =
    if not (is_there files from) then Refused NotFound
    else (if eq_by_cmp path_cmp from to then Nothing
    else (if is_under to from then Refused IntoItself
    else (if is_under from to then Refused HoldsSource
    else unless_beneath (file_above files to)
    (unless_taken (is_there files to) overwrite ignore (unless_past_limit (past_limit files from to))))))

abbrev pub delete_outcome : Entries → Path → (recursive ignore : Bool) → Outcome
delete_outcome files p recursive ignore =
    if is_present files p then Done
    else (if is_folder files p then (if recursive then Done else Refused NotEmpty)
    else (if ignore then Nothing else Refused NotFound))

-- What comes of the operation: the first case that holds.
abbrev pub outcome : Entries → ResourceOp → Outcome
outcome files (Create p overwrite ignore) = create_outcome files p overwrite ignore
outcome files (Rename from to overwrite ignore) = rename_outcome files from to overwrite ignore
outcome files (Delete p recursive ignore) = delete_outcome files p recursive ignore
