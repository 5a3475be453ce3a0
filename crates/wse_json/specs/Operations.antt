-- Operations of an edit (LSP 3.17, "WorkspaceEdit", "TextDocumentEdit", "CreateFile", "RenameFile", "DeleteFile").
use Rattle.std.specs.Prelude.{ℕ, ℤ, pos, negsuc, Bool, false, List, [], ◌∷◌, codes, Option, Some, None, Result, Ok, Err}
use Rattle.serde_json.specs.Data.{Data, Items, Members}
use Rattle.serde_json.specs.Find.{as_bool, as_str, as_array, as_object}
use Rattle.url.specs.Parts.{Parts}
use Rattle.wse_path.specs.Path.{Path}
use Rattle.wse_path.specs.declared.edit.Operation.{Operation}
use Rattle.wse_path.specs.declared.edit.What.TheVariants as whats
use Rattle.wse_path.specs.declared.operation.ResourceOp.TheVariants as ops
use Rattle.wse_uri.specs.Reading.{path_of}
use Rattle.wse_uri.specs.declared.refused.UriRefused.{UriRefused}
use Rattle.wse_uri.specs.declared.refused.UriRefused.TheVariants as uris
use Rattle.wse_json.specs.declared.operations.Kind.{Kind}
use Rattle.wse_json.specs.declared.operations.Kind.TheVariants as kinds
use Rattle.wse_json.specs.declared.shape.Shape.{Shape}
use Rattle.wse_json.specs.declared.shape.Shape.TheVariants.{Uri, Memory}
use Rattle.wse_json.specs.Annotations.{Waits, skipped_in}
use Rattle.wse_json.specs.Kinds.{an_object, a_whole_within, one_of, standard, perhaps, within, within_or, list_of, entries_of}
use Rattle.wse_json.specs.Shapes.{or_field, under, to_member, ◌>>=◌}
use Rattle.wse_json.specs.TextEdits.{text_edits_of}

abbrev pub path_if : Result Path UriRefused → Result Path Shape
path_if (Ok path) = Ok path
path_if (Err uris.Memory) = Err Memory
path_if (Err why) = Err (Uri [] why)

-- The path that the URI names below the root.
unfoldable pub path_named : Parts → List ℕ → Result Path Shape
path_named root text = path_if (path_of root text)

-- A member that is a URI, as the path that it names.
unfoldable pub path_at : Parts → List ℕ → Data → Result Path Shape
path_at root name d = within name as_str (path_named root) d

abbrev pub flags_of : (first second : List ℕ) → Data → Result (Bool × Bool) Shape
flags_of first second options = do
  a ← standard first as_bool false options
  b ← standard second as_bool false options
  Ok (a, b)

-- The two options of a resource operation.
unfoldable pub options_in : (first second : List ℕ) → Data → Result (Bool × Bool) Shape
options_in first second d = within_or (codes "options") an_object (flags_of first second) (false, false) d

unfoldable pub create_of : Parts → Waits → Data → Result Operation Shape
create_of root waits d = do
  path ← path_at root (codes "uri") d
  flags ← options_in (codes "overwrite") (codes "ignoreIfExists") d
  skipped ← skipped_in waits d
  Ok (record { what = whats.Resource (ops.Create path flags.0 flags.1); skipped = skipped })

unfoldable pub rename_of : Parts → Waits → Data → Result Operation Shape
rename_of root waits d = do
  old ← path_at root (codes "oldUri") d
  new ← path_at root (codes "newUri") d
  flags ← options_in (codes "overwrite") (codes "ignoreIfExists") d
  skipped ← skipped_in waits d
  Ok (record { what = whats.Resource (ops.Rename old new flags.0 flags.1); skipped = skipped })

unfoldable pub delete_of : Parts → Waits → Data → Result Operation Shape
delete_of root waits d = do
  path ← path_at root (codes "uri") d
  flags ← options_in (codes "recursive") (codes "ignoreIfNotExists") d
  skipped ← skipped_in waits d
  Ok (record { what = whats.Resource (ops.Delete path flags.0 flags.1); skipped = skipped })

-- The version that a file must have, null and missing being none (LSP 3.17, "integer").
abbrev pub a_version : Data → Option ℤ
a_version d = a_whole_within (negsuc 2147483647) (pos 2147483647) d

-- OptionalVersionedTextDocumentIdentifier.
unfoldable pub document_of : Parts → Data → Result (Path × Option ℤ) Shape
document_of root d = do
  path ← path_at root (codes "uri") d
  version ← perhaps (codes "version") a_version d
  Ok (path, version)

-- TextDocumentEdit.
unfoldable pub text_change_of : Parts → Waits → Data → Result Operation Shape
text_change_of root waits d = do
  document ← within (codes "textDocument") an_object (document_of root) d
  edits ← within (codes "edits") as_array (text_edits_of waits) d
  Ok (record { what = whats.Text document.0 document.1 edits; skipped = false })

abbrev pub kind_names : List (List ℕ × Kind)
kind_names = (codes "create", kinds.Create) ∷ (codes "rename", kinds.Rename) ∷ (codes "delete", kinds.Delete) ∷ []

abbrev pub operation_by : Kind → Parts → Waits → Data → Result Operation Shape
operation_by kinds.Text root waits d = text_change_of root waits d
operation_by kinds.Create root waits d = create_of root waits d
operation_by kinds.Rename root waits d = rename_of root waits d
operation_by kinds.Delete root waits d = delete_of root waits d

-- An item of `documentChanges`.
unfoldable pub operation_of : Parts → Waits → Data → Result Operation Shape
operation_of root waits d = do
  item ← or_field [] (an_object d)
  kind ← standard (codes "kind") (one_of kind_names) kinds.Text item
  operation_by kind root waits item

unfoldable pub document_changes_of : Parts → Waits → Items → Result (List Operation) Shape
document_changes_of root waits items = list_of (operation_of root waits) items

-- An entry of `changes`: the edits of the file that the name names, whatever its version. The order of the entries is this
-- project's own.
unfoldable pub entry_of : Parts → Waits → List ℕ → Data → Result Operation Shape
entry_of root waits name d = do
  path ← path_named root name
  items ← or_field [] (as_array d)
  edits ← text_edits_of waits items
  Ok (record { what = whats.Text path None edits; skipped = false })

unfoldable pub changes_of : Parts → Waits → Members → Result (List Operation) Shape
changes_of root waits members = entries_of (entry_of root waits) members

abbrev pub listed_or_changes : Parts → Waits → Data → Option Items → Result (List Operation) Shape
listed_or_changes root waits edit (Some items) = under (to_member (codes "documentChanges")) (document_changes_of root waits items)
listed_or_changes root waits edit None = within_or (codes "changes") as_object (changes_of root waits) [] edit

-- The operations of an edit: `documentChanges`, and only where it is missing `changes`.
unfoldable pub operations_in : Parts → Waits → Data → Result (List Operation) Shape
operations_in root waits edit = do
  listed ← perhaps (codes "documentChanges") as_array edit
  listed_or_changes root waits edit listed
