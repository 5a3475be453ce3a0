use Rattle.std.proofs.Common.{ℕ, ◌++◌, ◌∷◌, [], List, length, Option, sym, ap, ◌∙◌, arith, append_assoc}
use Rattle.std.proofs.lemmas.List.{map-append}
use Rattle.wse_path.specs.Path.{Path}
use Rattle.wse_path.specs.declared.change.Change.{Change}
use Rattle.wse_history.proofs.room.into_contents.Goals as goal

pub loop-change-preserved : goal.loop-change-preserved
loop-change-preserved c =
    let inv = c.loop-change.invariant in
    let step = c.in-Some.ensures.steps.0 in
    record {
      all = inv.all ∙ ap (λ (l : List Change). c.loop-change.yielded ++ l) step ∙ sym (append_assoc c.loop-change.yielded (c.in-Some.change ∷ []) c.next.new.self.rest.items);
      done =
          c.push_reserved.ensures.items
          ∙ ap (λ (l : List (Path × Option (List ℕ))). l ++ (c.in-Some.change.path, c.in-Some.change.after) ∷ []) inv.done
          ∙ sym (map-append (λ (x : Change). (x.path, x.after)) c.loop-change.yielded (c.in-Some.change ∷ []));
      room = omega (arith, inv.room, c.push_reserved.ensures.len, c.push_reserved.ensures.capacity, ap (λ (l : List Change). length l) step);
    }
