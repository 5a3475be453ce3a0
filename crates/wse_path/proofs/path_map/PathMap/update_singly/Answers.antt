use Rattle.std.proofs.Common.{◌++◌, ◌∷◌, [], List, length, sym, ap, ◌∙◌, arith, append_assoc}
use Rattle.wse_path.specs.Path.{Path}
use Rattle.wse_path.specs.PathMap.{set_value, value_at}
use Rattle.wse_path.proofs.MergeLemmas.{update_more}
use Rattle.wse_path.proofs.path_map.PathMap.update_singly.Goals as goal

pub loop-path-preserved : goal.loop-path-preserved
loop-path-preserved g c =
    let inv = c.loop-path.invariant in
    let step = c.in-Some.ensures.steps.0 in
    let next : Path × g.row.C.Denot = (c.in-Some.path, c.in-Some.item) in
    record {
      all =
          inv.all
          ∙ ap (λ (l : List (Path × g.row.C.Denot)). c.loop-path.yielded ++ l) step
          ∙ sym (append_assoc c.loop-path.yielded (next ∷ []) c.next.new.self.rest.items);
      set =
          c.update_one.ensures.entries
          ∙ ap (λ (l : List (Path × g.row.V.Denot)). set_value l c.in-Some.path (g.C.Update.updated c.in-Some.item (value_at l c.in-Some.path))) inv.set
          ∙ sym (update_more g.C.Update.updated c.loop-path.yielded next c.args.self.now.entries);
      room = omega (arith, inv.room, c.update_one.ensures.spare, ap (λ (l : List (Path × g.row.C.Denot)). length l) step);
    }
