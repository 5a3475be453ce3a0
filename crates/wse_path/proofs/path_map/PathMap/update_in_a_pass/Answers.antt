use Rattle.std.proofs.Common.{◌≡◌, List, true, sym, ap, subst, ◌∙◌}
use Rattle.std.specs.FinMap.{is_sorted}
use Rattle.wse_path.specs.Order.{path_cmp}
use Rattle.wse_path.specs.Path.{Path}
use Rattle.wse_path.specs.PathMap.{update_all}
use Rattle.wse_path.proofs.MergeLemmas.{sorted_update}
use Rattle.wse_path.proofs.path_map.PathMap.update_in_a_pass.Goals as goal

pub invariant_of-self-inside : goal.invariant_of-self-inside
invariant_of-self-inside g c =
    let now = c.restore.ensures.same ∙ c.set_each.ensures.set ∙ ap (update_all g.C.Update.updated c.args.items.items) c.unload.ensures.same in
    (subst (λ (l : List (Path × g.row.V.Denot)). is_sorted path_cmp l ≡ true) (sym now) (sorted_update g.C.Update.updated c.args.items.items c.self.inside.row.items c.self.inside.rises), tt)
