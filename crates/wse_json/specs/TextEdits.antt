-- Edits of texts (LSP 3.17, "TextEdit", "AnnotatedTextEdit", "Range", "Position").
use Rattle.std.specs.Prelude.{List, [], codes, Result, Ok}
use Rattle.serde_json.specs.Data.{Data, Items}
use Rattle.serde_json.specs.Find.{as_str}
use Rattle.wse_path.specs.declared.position.Position.{Position}
use Rattle.wse_path.specs.declared.position.TextEdit.{TextEdit}
use Rattle.wse_json.specs.declared.shape.Shape.{Shape}
use Rattle.wse_json.specs.Annotations.{Waits, skipped_in}
use Rattle.wse_json.specs.Kinds.{an_object, a_whole, required, within, list_of}
use Rattle.wse_json.specs.Shapes.{or_field, ◌>>=◌}

unfoldable pub position_of : Data → Result Position Shape
position_of d = do
  line ← required (codes "line") a_whole d
  character ← required (codes "character") a_whole d
  Ok (record { line = line; character = character })

-- The start and the end of a range.
unfoldable pub range_of : Data → Result (Position × Position) Shape
range_of d = do
  start ← within (codes "start") an_object position_of d
  end ← within (codes "end") an_object position_of d
  Ok (start, end)

unfoldable pub text_edit_of : Waits → Data → Result TextEdit Shape
text_edit_of waits d = do
  edit ← or_field [] (an_object d)
  places ← within (codes "range") an_object range_of edit
  text ← required (codes "newText") as_str edit
  skipped ← skipped_in waits edit
  Ok (record { start = places.0; end = places.1; new_text = text; skipped = skipped })

unfoldable pub text_edits_of : Waits → Items → Result (List TextEdit) Shape
text_edits_of waits items = list_of (text_edit_of waits) items
