use Rattle.std.proofs.Common.{◌≡◌, ◌++◌, ◌∷◌, [], List, length, reverse, true, sym, ap, subst, ◌∙◌, arith, append_assoc}
use Rattle.std.specs.FinMap.{is_sorted}
use Rattle.wse_path.specs.Order.{path_cmp}
use Rattle.wse_path.specs.Path.{Path}
use Rattle.wse_path.specs.PathMap.{set_value, value_at}
use Rattle.wse_path.proofs.MergeLemmas.{next_greater, sorted_update, update_more}
use Rattle.wse_path.proofs.merge.set_each.Goals as goal

pub set_next-requires-clause-rises : goal.set_next-requires-clause-rises
set_next-requires-clause-rises g c =
    subst (λ (l : List (Path × g.row.V.Denot)). is_sorted path_cmp l ≡ true) (sym c.loop-path.invariant.set)
    (sorted_update g.C.Update.updated c.loop-path.yielded (c.args.row.now.items ++ reverse c.args.rest.now.items) c.requires.rises)

pub set_next-requires-clause-before : goal.set_next-requires-clause-before
set_next-requires-clause-before g c = c.loop-path.invariant.before (c.in-Some.path, c.in-Some.item) c.next.new.self.rest.items c.in-Some.ensures.steps.0

pub loop-path-preserved : goal.loop-path-preserved
loop-path-preserved g c =
    let inv = c.loop-path.invariant in
    let step = c.in-Some.ensures.steps.0 in
    let next : Path × g.row.C.Denot = (c.in-Some.path, c.in-Some.item) in
    let left = c.next.new.self.rest.items in
    let split = inv.all ∙ ap (λ (l : List (Path × g.row.C.Denot)). c.loop-path.yielded ++ l) step in
    record {
      all = split ∙ sym (append_assoc c.loop-path.yielded (next ∷ []) left);
      set =
          c.set_next.ensures.set
          ∙ ap (λ (l : List (Path × g.row.V.Denot)). set_value l c.in-Some.path (g.C.Update.updated c.in-Some.item (value_at l c.in-Some.path))) inv.set
          ∙ sym (update_more g.C.Update.updated c.loop-path.yielded next (c.args.row.now.items ++ reverse c.args.rest.now.items));
      before = λ d more is.
          c.set_next.ensures.before d.0
          (next_greater path_cmp c.loop-path.yielded next d more
          (subst (λ (l : List (Path × g.row.C.Denot)). is_sorted path_cmp l ≡ true) (split ∙ ap (λ (l : List (Path × g.row.C.Denot)). c.loop-path.yielded ++ next ∷ l) is) c.requires.items_rise));
      room = omega (arith, inv.room, c.set_next.ensures.more, ap (λ (l : List (Path × g.row.C.Denot)). length l) step);
      row_capacity = c.set_next.ensures.row_capacity ∙ inv.row_capacity;
      rest_capacity = c.set_next.ensures.rest_capacity ∙ inv.rest_capacity;
    }
