-- Commands as lines of JSON. This project's own, but for the workspace edit in it (LSP 3.17, "WorkspaceEdit").
use Rattle.std.specs.Prelude.{ℕ, Bool, List, [], ◌∷◌, codes, Option, Some, None, Result, Ok, Err}
use Rattle.serde_json.specs.Data.{Data, Items}
use Rattle.serde_json.specs.Find.{as_str, as_array}
use Rattle.url.specs.Parts.{Parts}
use Rattle.wse_path.specs.Path.{Path}
use Rattle.wse_path.specs.declared.command.Choice.{Choice}
use Rattle.wse_path.specs.declared.command.Choice.TheVariants as choices
use Rattle.wse_path.specs.declared.command.Command.{Command}
use Rattle.wse_path.specs.declared.command.Command.TheVariants as commands
use Rattle.wse_path.specs.declared.command.Direction.{Direction}
use Rattle.wse_path.specs.declared.command.Direction.TheVariants.{Back, Forward}
use Rattle.wse_path.specs.declared.edit.Edit.{Edit}
use Rattle.wse_path.specs.declared.edit.FailureKind.{FailureKind}
use Rattle.wse_path.specs.declared.edit.FailureKind.TheVariants as failures
use Rattle.wse_path.specs.declared.edit.Operation.{Operation}
use Rattle.wse_path.specs.declared.position.Encoding.{Encoding}
use Rattle.wse_path.specs.declared.position.Encoding.TheVariants as encodings
use Rattle.wse_json.specs.declared.command.Verb.{Verb}
use Rattle.wse_json.specs.declared.command.Verb.TheVariants as verbs
use Rattle.wse_json.specs.declared.shape.Shape.{Shape}
use Rattle.wse_json.specs.declared.shape.Shape.TheVariants.{NotJson}
use Rattle.wse_json.specs.Annotations.{annotations_in, waits_of}
use Rattle.wse_json.specs.Kinds.{an_object, a_whole_up_to, a_text_up_to, one_of, required, standard, perhaps, within, within_or, list_of}
use Rattle.wse_json.specs.Members.{reading, is_among, optional}
use Rattle.wse_json.specs.Operations.{path_named, path_at, operations_in}
use Rattle.wse_json.specs.Shapes.{or_field, ◌>>=◌}

-- ---- edit

abbrev pub failure_names : List (List ℕ × FailureKind)
failure_names =
    (codes "abort", failures.Abort)
    ∷ (codes "transactional", failures.Transactional)
    ∷ (codes "textOnlyTransactional", failures.TextOnlyTransactional)
    ∷ (codes "undo", failures.Undo)
    ∷ []

abbrev pub encoding_names : List (List ℕ × Encoding)
encoding_names = (codes "utf-8", encodings.Utf8) ∷ (codes "utf-16", encodings.Utf16) ∷ (codes "utf-32", encodings.Utf32) ∷ []

abbrev pub a_text : Data → Result (List ℕ) Shape
a_text d = or_field [] (as_str d)

unfoldable pub texts_of : Items → Result (List (List ℕ)) Shape
texts_of items = list_of a_text items

-- The ids that are confirmed.
unfoldable pub confirmed_in : Data → Result (List (List ℕ)) Shape
confirmed_in line = within_or (codes "confirmed") as_array texts_of [] line

-- The operations of a workspace edit, behind the checks of its annotations.
unfoldable pub workspace_edit_of : Parts → (List ℕ → Bool) → Data → Result (List Operation) Shape
workspace_edit_of root confirmed edit = do
  checked ← annotations_in edit
  operations_in root (waits_of (optional (codes "changeAnnotations") edit) confirmed) edit

unfoldable pub edit_in : Parts → Data → Result Edit Shape
edit_in root line = do
  label ← standard (codes "label") (a_text_up_to 1024) [] line
  failure ← standard (codes "failure") (one_of failure_names) failures.Abort line
  encoding ← standard (codes "encoding") (one_of encoding_names) encodings.Utf16 line
  confirmed ← confirmed_in line
  operations ← within (codes "edit") an_object (workspace_edit_of root (is_among confirmed)) line
  Ok (record { label = label; failure = failure; encoding = encoding; operations = operations })

-- ---- the other commands

abbrev pub choice_names : List (List ℕ × Choice)
choice_names = (codes "all", choices.All) ∷ (codes "this", choices.This) ∷ (codes "cancel", choices.Cancel) ∷ []

unfoldable pub move_in : Parts → ℕ → Direction → Data → Result Command Shape
move_in root by direction line = do
  path ← path_at root (codes "uri") line
  choice ← standard (codes "choice") (one_of choice_names) choices.All line
  Ok (commands.Move by direction path choice)

abbrev pub path_item : Parts → Data → Result Path Shape
path_item root d = do
  text ← or_field [] (as_str d)
  path_named root text

unfoldable pub paths_of : Parts → Items → Result (List Path) Shape
paths_of root items = list_of (path_item root) items

unfoldable pub paths_in : Parts → Data → Result (List Path) Shape
paths_in root line = within (codes "uris") as_array (paths_of root) line

unfoldable pub outside_in : Parts → Data → Result Command Shape
outside_in root line = do
  path ← path_at root (codes "uri") line
  content ← perhaps (codes "text") as_str line
  Ok (commands.Outside path content)

-- ---- commands

abbrev pub verb_names : List (List ℕ × Verb)
verb_names =
    (codes "edit", verbs.Edit)
    ∷ (codes "undo", verbs.Undo)
    ∷ (codes "redo", verbs.Redo)
    ∷ (codes "lock", verbs.Lock)
    ∷ (codes "unlock", verbs.Unlock)
    ∷ (codes "leave", verbs.Leave)
    ∷ (codes "outside", verbs.Outside)
    ∷ (codes "forget", verbs.Forget)
    ∷ (codes "look", verbs.Look)
    ∷ []

-- The members of each command, in order.
unfoldable pub command_by : Verb → Parts → ℕ → Data → Result Command Shape
command_by verbs.Edit root by line = do
  edit ← edit_in root line
  Ok (commands.Edit by edit)
command_by verbs.Undo root by line = move_in root by Back line
command_by verbs.Redo root by line = move_in root by Forward line
command_by verbs.Lock root by line = do
  files ← paths_in root line
  Ok (commands.Lock by files)
command_by verbs.Unlock root by line = do
  files ← paths_in root line
  Ok (commands.Unlock by files)
command_by verbs.Leave root by line = Ok (commands.Leave by)
command_by verbs.Outside root by line = outside_in root line
command_by verbs.Forget root by line = do
  path ← path_at root (codes "uri") line
  Ok (commands.Forget path)
command_by verbs.Look root by line = do
  path ← path_at root (codes "uri") line
  Ok (commands.Look path)

-- The command that a value is: who gives it, what it does, and then its own members.
unfoldable pub command_of : Parts → Data → Result Command Shape
command_of root d = do
  line ← or_field [] (an_object d)
  by ← standard (codes "by") (a_whole_up_to 4294967295) 0 line
  verb ← required (codes "do") (one_of verb_names) line
  command_by verb root by line

abbrev pub command_if : Parts → Option Data → Result Command Shape
command_if root None = Err NotJson
command_if root (Some d) = command_of root d

-- The command that the line is, or the first check that it fails.
abbrev pub command_in : Parts → List ℕ → Result Command Shape
command_in root line = command_if root (reading line)
