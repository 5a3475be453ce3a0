use Rattle.std.proofs.Common.{◌≡◌}
use Rattle.serde_json.specs.View.{items_view}
use Rattle.wse_json.specs.Noted.{waits_by}
use Rattle.wse_json.specs.TextEdits.{text_edit_of, text_edits_of}
use Rattle.wse_json.proofs.WalkLemmas.{read_behind, left}
use Rattle.wse_json.proofs.text_edits.text_edits_of.Given as goal

abbrev pub invariant-loop-index : goal.invariant-loop-index
invariant-loop-index l = text_edits_of (waits_by l.notes) (items_view l.edits) ≡ read_behind l.all.items (left (text_edit_of (waits_by l.notes)) l.edits l.index)
