use Rattle.std.proofs.Common.{◌≡◌}
use Rattle.serde_json.specs.View.{items_view}
use Rattle.wse_json.specs.Commands.{a_text, texts_of}
use Rattle.wse_json.proofs.WalkLemmas.{read_behind, left}
use Rattle.wse_json.proofs.command.texts_of.Given as goal

abbrev pub invariant-loop-index : goal.invariant-loop-index
invariant-loop-index l = texts_of (items_view l.items) ≡ read_behind l.all.items (left (a_text) l.items l.index)
