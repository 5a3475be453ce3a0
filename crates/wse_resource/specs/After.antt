-- The tree after a resource operation that is done.
use Rattle.std.specs.Prelude.{ℕ, not, List, [], ◌∷◌, map, Option, Some, None, if◌then◌else◌}
use Rattle.std.specs.FinMap.Entries.{where_key}
use Rattle.std.specs.Ordering.{eq_by_cmp}
use Rattle.wse_path.specs.Path.{Path}
use Rattle.wse_path.specs.Order.{path_cmp}
use Rattle.wse_path.specs.Tree.{Entries, content, put_file, put_all, remove_file}
use Rattle.wse_path.specs.declared.operation.ResourceOp.{ResourceOp}
use Rattle.wse_path.specs.declared.operation.ResourceOp.TheVariants.{Create, Rename, Delete}
use Rattle.wse_resource.specs.Table.{is_within, moved, files_within}

-- The files but those at or under the path.
abbrev pub without : Entries → Path → Entries
without files p = where_key path_cmp (λ q. not (is_within q p)) files

-- The files but for each of the paths, one after another.
abbrev pub removed_each : List Path → Entries → Entries
removed_each [] files = files
removed_each (p ∷ more) files = removed_each more (remove_file files p)

-- The files at and under `from`, where they go.
abbrev pub moved_files : Entries → Path → Path → Entries
moved_files files from to = map (λ e. (moved from to e.0, e.1)) (files_within files from)

-- A create makes the path an empty file. A rename takes away all at and under both paths, and puts each file that was at or
-- under the first where it goes. A delete takes away all at and under the path.
abbrev pub after_operation : Entries → ResourceOp → Entries
after_operation files (Create p overwrite ignore) = put_file files p []
after_operation files (Rename from to overwrite ignore) = put_all (moved_files files from to) (without (without files from) to)
after_operation files (Delete p recursive ignore) = without files p

-- The same path by path: what is at q after the operation.
abbrev pub content_after : Entries → ResourceOp → Path → Option (List ℕ)
content_after files (Create p overwrite ignore) q = if eq_by_cmp path_cmp q p then Some [] else content files q
content_after files (Rename from to overwrite ignore) q =
    if is_within q to then content files (moved to from q)
    else (if is_within q from then None else content files q)
content_after files (Delete p recursive ignore) q = if is_within q p then None else content files q
