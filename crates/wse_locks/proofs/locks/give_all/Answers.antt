use Rattle.std.proofs.Common.{◌++◌, ◌∷◌, [], List, Some, length, cond, sym, ap, ◌∙◌, arith, append_assoc}
use Rattle.std.specs.FinMap.Entries.{find-put}
use Rattle.std.specs.Ordering.{eq_by_cmp}
use Rattle.wse_path.specs.Order.{path_cmp, is_named}
use Rattle.wse_path.specs.Path.{Path}
use Rattle.wse_path.proofs.PathOrder.{total}
use Rattle.wse_locks.specs.Locks.{Holders, holder}
use Rattle.wse_locks.proofs.LockLemmas.{also, named_more}
use Rattle.wse_locks.proofs.locks.give_all.Goals as goal

pub loop-path-preserved : goal.loop-path-preserved
loop-path-preserved c =
    let inv = c.loop-path.invariant in
    let step = c.in-Some.ensures.steps.0 in
    record {
      all = inv.all ∙ ap (λ (l : List Path). c.loop-path.yielded ++ l) step ∙ sym (append_assoc c.loop-path.yielded (c.in-Some.path ∷ []) c.next.new.self.rest.items);
      given = λ q.
          ap (λ (es : Holders). holder es q) c.put_reserved.ensures.entries
          ∙ find-put path_cmp total q c.in-Some.path c.args.by c.loop-path.map.entries
          ∙ ap (λ o. cond (eq_by_cmp path_cmp q c.in-Some.path) (Some c.args.by) o) (inv.given q)
          ∙ also (is_named c.loop-path.yielded q) (eq_by_cmp path_cmp q c.in-Some.path) (Some c.args.by) (holder c.args.map.now.entries q)
          ∙ ap (λ b. cond b (Some c.args.by) (holder c.args.map.now.entries q)) (sym (named_more c.loop-path.yielded c.in-Some.path q));
      room = omega (arith, inv.room, c.put_reserved.ensures.spare, ap (λ (l : List Path). length l) step);
    }
