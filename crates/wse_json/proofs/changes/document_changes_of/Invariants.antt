use Rattle.std.proofs.Common.{◌≡◌}
use Rattle.serde_json.specs.View.{items_view}
use Rattle.wse_json.specs.Noted.{waits_by}
use Rattle.wse_json.specs.Operations.{document_changes_of, operation_of}
use Rattle.wse_json.proofs.WalkLemmas.{read_behind, left}
use Rattle.wse_json.proofs.changes.document_changes_of.Given as goal

abbrev pub invariant-loop-index : goal.invariant-loop-index
invariant-loop-index l = document_changes_of l.root (waits_by l.notes) (items_view l.items) ≡ read_behind l.all.items (left (operation_of l.root (waits_by l.notes)) l.items l.index)
