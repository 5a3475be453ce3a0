use Rattle.std.proofs.Common.{List, sym, ap, subst, ◌∙◌}
use Rattle.std.proofs.lemmas.Result.{on_ok_weaker}
use Rattle.wse_path.specs.Changes.{erased, stored}
use Rattle.wse_path.specs.declared.change.Change.{Change}
use Rattle.wse_apply.specs.Draft.{FindRoom}
use Rattle.wse_apply.proofs.StopLemmas.{find_room, same_lead}
use Rattle.wse_apply.proofs.accept.make.Goals as goal

pub store_all-requires : goal.store_all-requires
store_all-requires c =
    let files = c.args.overlay.now.files in
    subst (λ (l : List Change). FindRoom l c.erase_all.new.overlay.files) (sym c.into_vec.ensures)
    (find_room files c.erase_all.new.overlay.files c.args.changes c.requires (c.in_ok-erase_all.ensures.files ∙ ap (λ (l : List Change). erased l files) c.as_slice.ensures))

pub returns-clause-files : goal.returns-clause-files
returns-clause-files c =
    let files = c.args.overlay.now.files in
    let erased_is = c.in_ok-erase_all.ensures.files ∙ ap (λ (l : List Change). erased l files) c.as_slice.ensures in
    on_ok_weaker c.store_all.result
    (λ is new lead. is ∙ (λ i. stored (c.into_vec.ensures i) (erased_is i)) ∙ same_lead files new c.args.changes c.requires lead)
    c.store_all.ensures.files
