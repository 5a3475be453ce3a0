use Rattle.std.proofs.Common.{◌++◌, ◌∷◌, ◌||◌, [], List, sym, ap, ◌∙◌, append_assoc}
use Rattle.std.specs.BTreeSet.{contains}
use Rattle.std.specs.Ordering.{eq_by_cmp}
use Rattle.wse_path.specs.Path.{Path}
use Rattle.wse_path.specs.Order.{path_cmp}
use Rattle.wse_history.proofs.NearLemmas.{kept_more}
use Rattle.wse_history.proofs.way.keep_all.Goals as goal

pub loop-path-preserved : goal.loop-path-preserved
loop-path-preserved c =
    let inv = c.loop-path.invariant in
    let path = c.in-Some.path in
    record {
      all = inv.all ∙ ap (λ (l : List Path). c.loop-path.yielded ++ l) c.in-Some.ensures.steps.0 ∙ sym (append_assoc c.loop-path.yielded (path ∷ []) c.next.new.self.rest.items);
      kept = λ q.
          kept_more path q c.loop-path.yielded (contains path_cmp c.args.found.now q) (contains path_cmp c.keep.new.found q)
          (c.in_ok-keep.ensures q ∙ ap (λ b. eq_by_cmp path_cmp path q || b) (inv.kept q));
    }
