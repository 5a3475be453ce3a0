use Rattle.std.proofs.Common.{List, [], ◌∷◌, ◌++◌, sym, ap, subst, ◌∙◌, append_assoc}
use Rattle.wse_path.specs.Tree.{Entries, HasRoom}
use Rattle.wse_path.specs.Changes.{stored_at}
use Rattle.wse_path.specs.declared.change.Change.{Change}
use Rattle.wse_path.proofs.ChangeLemmas.{stored_more}
use Rattle.wse_apply.proofs.accept.store_all.Goals as goal

pub store-requires : goal.store-requires
store-requires c = λ bytes after.
    let inv = c.loop-change.invariant in
    let front = c.loop-change.yielded in
    let split = inv.all ∙ ap (λ (l : List Change). front ++ l) c.in-Some.ensures.steps.0 in
    subst (λ (es : Entries). HasRoom es c.in-Some.change.path) (sym inv.files)
    (c.requires front c.in-Some.change c.next.new.self.rest.items bytes split after)

pub loop-change-preserved : goal.loop-change-preserved
loop-change-preserved c =
    let inv = c.loop-change.invariant in
    let front = c.loop-change.yielded in
    let d = c.in-Some.change in
    record {
      all = inv.all ∙ ap (λ (l : List Change). front ++ l) c.in-Some.ensures.steps.0 ∙ sym (append_assoc front (d ∷ []) c.next.new.self.rest.items);
      files = c.in_ok-store.ensures.files ∙ ap (λ (es : Entries). stored_at d.path d.after es) inv.files ∙ sym (stored_more front d c.args.overlay.now.files);
      base = c.store.ensures.base ∙ inv.base;
    }
