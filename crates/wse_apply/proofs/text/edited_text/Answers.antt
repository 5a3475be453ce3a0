use Rattle.std.proofs.Common.{◌≡◌, ℕ, true, List, length, sym, subst, ◌∙◌}
use Rattle.std.specs.List.{list_all}
use Rattle.wse_splice.specs.declared.splice.Splice.{Splice}
use Rattle.wse_splice.specs.Splice.{Fits, spliced}
use Rattle.wse_apply.specs.Unchanged.{leaves}
use Rattle.wse_apply.proofs.UnchangedLemmas.{left_all}
use Rattle.wse_apply.proofs.text.edited_text.Goals as goal

pub all_leave-requires : goal.all_leave-requires
all_leave-requires c =
    subst (λ (t : List ℕ). Fits c.as_slice.result.now (length t)) (sym c.as_bytes.ensures.value)
    (subst (λ (ss : List Splice). Fits ss (length c.args.text.now)) (sym c.as_slice.ensures) c.in_ok-splices.ensures.fits)

pub apply-requires : goal.apply-requires
apply-requires c =
    subst (λ (t : List ℕ). Fits c.as_slice-2.result.now (length t)) (sym c.as_bytes-2.ensures.value)
    (subst (λ (ss : List Splice). Fits ss (length c.args.text.now)) (sym c.as_slice-2.ensures) c.in_ok-splices.ensures.fits)

pub returns-then-all_leave-clause-after : goal.returns-then-all_leave-clause-after
returns-then-all_leave-clause-after c =
    let text = c.args.text.now in
    let splices = c.in_ok-splices.splices in
    let leave : list_all (leaves text) splices ≡ true =
    (λ i. list_all (leaves (sym c.as_bytes.ensures.value i)) (sym c.as_slice.ensures i)) ∙ sym c.all_leave.ensures ∙ c.if-all_leave.true in
    sym (left_all text splices c.in_ok-splices.ensures.fits leave) ∙ c.in_ok-splices.ensures.text_after

pub returns-clause-after : goal.returns-clause-after
returns-clause-after c =
    c.in_ok-after.ensures.value ∙ (λ i. spliced (c.as_bytes-2.ensures.value i) (c.as_slice-2.ensures i)) ∙ c.in_ok-splices.ensures.text_after
