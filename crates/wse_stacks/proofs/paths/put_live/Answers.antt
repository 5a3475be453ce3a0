use Rattle.std.proofs.Common.{true, cond, sym, ap, ◌∙◌}
use Rattle.std.specs.BTreeSet.{contains}
use Rattle.std.specs.Ordering.{eq_by_cmp}
use Rattle.wse_path.specs.Path.{Path}
use Rattle.wse_path.specs.Order.{path_cmp}
use Rattle.wse_stacks.proofs.PathLemmas.{has_put}
use Rattle.wse_stacks.proofs.paths.put_live.Goals as goal

pub returns-in_ok-insert : goal.returns-in_ok-insert
returns-in_ok-insert c = λ p.
    let was = contains path_cmp c.args.found.now p in
    c.in_ok-insert.ensures.updates.0 p
    ∙ ap (λ (q : Path). cond (eq_by_cmp path_cmp q p) true was) (c.in_ok-duplicate.ensures ∙ c.path.ensures)
    ∙ has_put was c.args.part.now p (sym c.is_live.ensures ∙ c.if-is_live.true)
