use Rattle.std.proofs.Common.{true, false, inl, inr, refl, sym, ◌∙◌}
use Rattle.std.proofs.lemmas.Result.{IfOk-weaker, MatchResult-weaker, err_from_is_err_and}
use Rattle.wse_path.specs.Path.{is_under}
use Rattle.wse_resource.proofs.WithinLemmas.{tied_is}
use Rattle.wse_resource.proofs.OutcomeLemmas.{rename_by, rename_onto}
use Rattle.wse_resource.proofs.course.rename_course.Goals as goal

pub returns-then-eq-clause-course : goal.returns-then-eq-clause-course
returns-then-eq-clause-course g c =
    rename_by (g.C.Contents.files c.args.contents.now) c.args.from.now c.args.to.now c.args.overwrite c.args.ignore true true (is_under c.args.to.now c.args.from.now) (is_under c.args.from.now c.args.to.now) (sym c.in_ok-is_there.ensures ∙ c.if-not-branch.false) (tied_is c.args.from.now c.args.to.now c.eq.result c.eq.ensures.same ∙ c.if-eq.true) refl refl

pub returns-then-is_under-clause-refused : goal.returns-then-is_under-clause-refused
returns-then-is_under-clause-refused g c =
    inr (rename_by (g.C.Contents.files c.args.contents.now) c.args.from.now c.args.to.now c.args.overwrite c.args.ignore true false true (is_under c.args.from.now c.args.to.now) (sym c.in_ok-is_there.ensures ∙ c.if-not-branch.false) (tied_is c.args.from.now c.args.to.now c.eq.result c.eq.ensures.same ∙ c.if-eq.false) (sym c.is_under.ensures ∙ c.if-is_under.true) refl)

pub returns-then-is_under-2-clause-refused : goal.returns-then-is_under-2-clause-refused
returns-then-is_under-2-clause-refused g c =
    inr (rename_by (g.C.Contents.files c.args.contents.now) c.args.from.now c.args.to.now c.args.overwrite c.args.ignore true false false true (sym c.in_ok-is_there.ensures ∙ c.if-not-branch.false) (tied_is c.args.from.now c.args.to.now c.eq.result c.eq.ensures.same ∙ c.if-eq.false) (sym c.is_under.ensures ∙ c.if-is_under.false) (sym c.is_under-2.ensures ∙ c.if-is_under-2.true))

pub returns-in_err-refuse_beneath-clause-refused : goal.returns-in_err-refuse_beneath-clause-refused
returns-in_err-refuse_beneath-clause-refused g c =
    let p = err_from_is_err_and c.from_residual-in_err-refuse_beneath.result c.from_residual-in_err-refuse_beneath.ensures.1 in
    rw (p.1, p.2) (elim c.in_err-refuse_beneath.ensures.refused [
      | inl memory ↦ inl memory
      | inr beneath ↦ inr (rename_by (g.C.Contents.files c.args.contents.now) c.args.from.now c.args.to.now c.args.overwrite c.args.ignore true false false false (sym c.in_ok-is_there.ensures ∙ c.if-not-branch.false) (tied_is c.args.from.now c.args.to.now c.eq.result c.eq.ensures.same ∙ c.if-eq.false) (sym c.is_under.ensures ∙ c.if-is_under.false) (sym c.is_under-2.ensures ∙ c.if-is_under-2.false) ∙ beneath _)
    ])

pub returns-clause-course : goal.returns-clause-course
returns-clause-course g c =
    let onto = rename_onto (g.C.Contents.files c.args.contents.now) c.args.from.now c.args.to.now c.args.overwrite c.args.ignore c.in_ok-is_there-2.field-0 (sym c.in_ok-is_there.ensures ∙ c.if-not-branch.false) (tied_is c.args.from.now c.args.to.now c.eq.result c.eq.ensures.same ∙ c.if-eq.false) (sym c.is_under.ensures ∙ c.if-is_under.false) (sym c.is_under-2.ensures ∙ c.if-is_under-2.false) c.in_ok-refuse_beneath.ensures.ok c.in_ok-is_there-2.ensures in
    IfOk-weaker c.course_onto.result _ _ (λ course h. onto ∙ h _) c.course_onto.ensures.course

pub returns-clause-refused : goal.returns-clause-refused
returns-clause-refused g c =
    let onto = rename_onto (g.C.Contents.files c.args.contents.now) c.args.from.now c.args.to.now c.args.overwrite c.args.ignore c.in_ok-is_there-2.field-0 (sym c.in_ok-is_there.ensures ∙ c.if-not-branch.false) (tied_is c.args.from.now c.args.to.now c.eq.result c.eq.ensures.same ∙ c.if-eq.false) (sym c.is_under.ensures ∙ c.if-is_under.false) (sym c.is_under-2.ensures ∙ c.if-is_under-2.false) c.in_ok-refuse_beneath.ensures.ok c.in_ok-is_there-2.ensures in
    MatchResult-weaker c.course_onto.result c.course_onto.ensures.refused (λ course t. t) (λ why h. inr (onto ∙ h _))
