use Rattle.std.proofs.Common.{◌≡◌}
use Rattle.serde_json.specs.View.{members_view}
use Rattle.wse_json.specs.Noted.{waits_by}
use Rattle.wse_json.specs.Operations.{entry_of, changes_of}
use Rattle.wse_json.proofs.WalkLemmas.{read_behind, entries_left}
use Rattle.wse_json.proofs.changes.changes_of.Given as goal

abbrev pub invariant-loop-name : goal.invariant-loop-name
invariant-loop-name l = changes_of l.root (waits_by l.notes) (members_view l.changes.entries) ≡ read_behind l.all.items (entries_left (entry_of l.root (waits_by l.notes)) l.name-iterator)
