use Rattle.std.proofs.Common.{◌≡◌}
use Rattle.serde_json.specs.View.{members_view}
use Rattle.wse_json.specs.Annotations.{annotation_checks}
use Rattle.wse_json.proofs.notes.check_annotations.Given as goal

abbrev pub invariant-loop-id : goal.invariant-loop-id
invariant-loop-id l = annotation_checks (members_view l.annotations.entries) ≡ annotation_checks (members_view l.id-iterator)
