use Rattle.std.proofs.Common.{◌≡◌, ℕ, List, IfOk, subst}
use Rattle.std.proofs.lemmas.Result.{on_ok_weaker, IfErr-weaker}
use Rattle.std.specs.Option.{unwrap_or}
use Rattle.wse_edits.specs.Edited.{edited}
use Rattle.wse_apply.proofs.TextLemmas.{text_told, text_clear, no_text}
use Rattle.wse_apply.proofs.text.edited.Goals as goal

pub returns-in-Ok-clause-after : goal.returns-in-Ok-clause-after
returns-in-Ok-clause-after c =
    subst (λ (b : List ℕ). IfOk c.edited_text.result (λ after. unwrap_or after b ≡ edited b c.args.enc c.args.edits.now)) c.in-Ok.ensures.same c.edited_text.ensures.after

pub returns-in-Ok-clause-ok : goal.returns-in-Ok-clause-ok
returns-in-Ok-clause-ok c =
    on_ok_weaker c.edited_text.result (λ h. text_clear c.in-Ok.text.now c.args.bytes.now c.args.enc c.args.edits.now c.in-Ok.ensures.same c.in-Ok.ensures.ok h) c.edited_text.ensures.ok

pub returns-in-Ok-clause-refused : goal.returns-in-Ok-clause-refused
returns-in-Ok-clause-refused c =
    IfErr-weaker c.edited_text.result _ _ (λ why h. text_told c.in-Ok.text.now c.args.bytes.now c.args.enc c.args.edits.now why c.in-Ok.ensures.same c.in-Ok.ensures.ok h) c.edited_text.ensures.refused

pub returns-in-Err-clause-refused : goal.returns-in-Err-clause-refused
returns-in-Err-clause-refused c = no_text c.args.bytes.now c.args.enc c.args.edits.now c.in-Err.why.at c.in-Err.ensures.err c.in-Err.ensures.at
