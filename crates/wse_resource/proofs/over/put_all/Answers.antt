use Rattle.std.proofs.Common.{[], ◌∷◌, ◌++◌, sym, ap, subst, ◌∙◌, append_assoc}
use Rattle.wse_path.specs.Tree.{Entries, put_file, put_all, HasRoom, IsTree}
use Rattle.wse_resource.proofs.OverLemmas.{put_all-push, next_room}
use Rattle.wse_resource.proofs.over.put_all.Goals as goal

pub put-requires : goal.put-requires
put-requires g c =
    let inv = c.loop-path.invariant in
    let front = c.loop-path.yielded in
    let split = inv.all ∙ ap (λ (l : Entries). front ++ l) c.in-Some.ensures.steps.0 in
    subst (λ (es : Entries). HasRoom es c.in-Some.path) (sym inv.done)
    (next_room front (c.in-Some.path, c.in-Some.bytes) c.next.new.self.rest.items c.args.overlay.now.files
    (subst (λ (l : Entries). IsTree (put_all l c.args.overlay.now.files)) split c.requires))

pub loop-path-preserved : goal.loop-path-preserved
loop-path-preserved g c =
    let inv = c.loop-path.invariant in
    let front = c.loop-path.yielded in
    record {
      all = inv.all ∙ ap (λ (l : Entries). front ++ l) c.in-Some.ensures.steps.0 ∙ sym (append_assoc front ((c.in-Some.path, c.in-Some.bytes) ∷ []) c.next.new.self.rest.items);
      done = c.in_ok-put.ensures.files ∙ ap (λ (es : Entries). put_file es c.in-Some.path c.in-Some.bytes) inv.done ∙ sym (put_all-push front (c.in-Some.path, c.in-Some.bytes) c.args.overlay.now.files);
      base = c.put.ensures.base ∙ inv.base;
    }
