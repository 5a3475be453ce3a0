use Rattle.std.proofs.Common.{refl}
use Rattle.std.proofs.lemmas.Result.{on_ok_weaker, IfErr-weaker}
use Rattle.wse_apply.specs.declared.reason.Reason.TheVariants.{NotText}
use Rattle.wse_apply.specs.declared.stop.Stop.TheVariants.{Refused}
use Rattle.wse_apply.proofs.TextLemmas.{text_told, text_clear, no_text, clear_after, told_after}
use Rattle.wse_apply.proofs.slowly.text_after.Goals as goal

pub returns-in-Ok-clause-ok : goal.returns-in-Ok-clause-ok
returns-in-Ok-clause-ok c =
    on_ok_weaker c.edited_unless_refused.result
    (λ h. clear_after c.args.setting.now c.args.path.now c.args.version c.args.edits.now c.args.bytes.now c.version.result c.encoding.result c.version.ensures c.encoding.ensures c.in_ok-check_version.ensures.ok
    (text_clear c.in-Ok.text.now c.args.bytes.now c.encoding.result c.args.edits.now c.in-Ok.ensures.same c.in-Ok.ensures.ok h))
    c.edited_unless_refused.ensures.ok

pub returns-in-Ok-clause-refused : goal.returns-in-Ok-clause-refused
returns-in-Ok-clause-refused c =
    IfErr-weaker c.edited_unless_refused.result _ _
    (λ why h. told_after c.args.setting.now c.args.path.now c.args.version c.args.edits.now c.args.bytes.now c.version.result c.encoding.result why c.version.ensures c.encoding.ensures c.in_ok-check_version.ensures.ok
    (text_told c.in-Ok.text.now c.args.bytes.now c.encoding.result c.args.edits.now why c.in-Ok.ensures.same c.in-Ok.ensures.ok h))
    c.edited_unless_refused.ensures.refused

pub returns-in-Err-clause-refused : goal.returns-in-Err-clause-refused
returns-in-Err-clause-refused c =
    let setting = c.args.setting.now in
    told_after setting c.args.path.now c.args.version c.args.edits.now c.args.bytes.now c.version.result setting.encoding (Refused (NotText c.in-Err.why.at)) c.version.ensures refl c.in_ok-check_version.ensures.ok
    (no_text c.args.bytes.now setting.encoding c.args.edits.now c.in-Err.why.at c.in-Err.ensures.err c.in-Err.ensures.at)
