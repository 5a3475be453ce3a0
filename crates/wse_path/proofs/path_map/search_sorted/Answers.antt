use Rattle.std.proofs.Common.{rules}
use Rattle.std.proofs.lemmas.Fn.{always_returns_same}
use Rattle.wse_path.specs.Path.{Path}
use Rattle.wse_path.specs.Order.{path_cmp}
use Rattle.wse_path.proofs.EntryLemmas.{searched}
use Rattle.wse_path.proofs.PathOrder.{total}
use Rattle.wse_path.proofs.path_map.search_sorted.Goals as goal

pub returns : goal.returns
returns g c =
    let facts = c.binary_search_by.ensures in
    let by_path = facts.position (λ (e : Path × g.row.V.Denot). path_cmp e.0 c.args.path.now) (always_returns_same _ _ _ (λ a r f' called. search rules)) in
    searched total c.args.entries.now c.args.path.now c.binary_search_by.result c.requires facts.bound by_path
