use Rattle.std.proofs.Common.{List, IfOk, IfErr, sym, subst}
use Rattle.wse_path.specs.declared.edit.What.{What}
use Rattle.wse_path.specs.declared.position.TextEdit.{TextEdit}
use Rattle.wse_apply.specs.Next.{text_next, done_next}
use Rattle.wse_apply.specs.Draft.{IsDraftOf, IsStopOf}
use Rattle.wse_apply.proofs.course.drafted.Goals as goal

pub returns-in-Text-clause-draft : goal.returns-in-Text-clause-draft
returns-in-Text-clause-draft c =
    let s = c.args.setting.now in
    let f = c.args.overlay.now.files in
    subst (λ (w : What). IfOk c.text_changes.result (IsDraftOf s f (done_next s f w))) (sym c.in-Text.is)
    (subst (λ (es : List TextEdit). IfOk c.text_changes.result (IsDraftOf s f (text_next s f c.in-Text.path c.in-Text.version es))) c.as_slice.ensures c.text_changes.ensures.draft)

pub returns-in-Text-clause-refused : goal.returns-in-Text-clause-refused
returns-in-Text-clause-refused c =
    let s = c.args.setting.now in
    let f = c.args.overlay.now.files in
    subst (λ (w : What). IfErr c.text_changes.result (IsStopOf (done_next s f w))) (sym c.in-Text.is)
    (subst (λ (es : List TextEdit). IfErr c.text_changes.result (IsStopOf (text_next s f c.in-Text.path c.in-Text.version es))) c.as_slice.ensures c.text_changes.ensures.refused)

pub returns-in-Resource-clause-draft : goal.returns-in-Resource-clause-draft
returns-in-Resource-clause-draft c =
    let s = c.args.setting.now in
    let f = c.args.overlay.now.files in
    subst (λ (w : What). IfOk c.resource_changes.result (IsDraftOf s f (done_next s f w))) (sym c.in-Resource.is) c.resource_changes.ensures.draft

pub returns-in-Resource-clause-refused : goal.returns-in-Resource-clause-refused
returns-in-Resource-clause-refused c =
    let s = c.args.setting.now in
    let f = c.args.overlay.now.files in
    subst (λ (w : What). IfErr c.resource_changes.result (IsStopOf (done_next s f w))) (sym c.in-Resource.is) c.resource_changes.ensures.refused
