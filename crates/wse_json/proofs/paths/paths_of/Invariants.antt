use Rattle.std.proofs.Common.{◌≡◌}
use Rattle.serde_json.specs.View.{items_view}
use Rattle.wse_json.specs.Commands.{path_item, paths_of}
use Rattle.wse_json.proofs.WalkLemmas.{read_behind, left}
use Rattle.wse_json.proofs.paths.paths_of.Given as goal

abbrev pub invariant-loop-index : goal.invariant-loop-index
invariant-loop-index l = paths_of l.root (items_view l.uris) ≡ read_behind l.all.items (left (path_item l.root) l.uris l.index)
