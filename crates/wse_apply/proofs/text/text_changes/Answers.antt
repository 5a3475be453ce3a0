use Rattle.std.proofs.Common.{sym, ap, ◌∙◌}
use Rattle.std.specs.Option.{option_or, unwrap_or}
use Rattle.wse_path.specs.declared.position.Encoding.{Encoding}
use Rattle.wse_edits.specs.Edited.{edited}
use Rattle.wse_edits.specs.Refusal.{refusal}
use Rattle.wse_apply.specs.Next.{not_text, edits_reason}
use Rattle.wse_apply.proofs.TextLemmas.{text_folder, text_at, text_draft}
use Rattle.wse_apply.proofs.text.text_changes.Goals as goal

pub returns-then-branch-clause-refused : goal.returns-then-branch-clause-refused
returns-then-branch-clause-refused c =
    text_folder c.args.setting.now c.args.overlay.now.files c.args.path.now c.args.version c.args.edits.now (sym c.in_ok-is_folder.ensures ∙ c.if-branch.true)

pub returns-in_ok-changes-in-Some-clause-draft : goal.returns-in_ok-changes-in-Some-clause-draft
returns-in_ok-changes-in-Some-clause-draft c =
    let b = c.in-Some.bytes.now in
    let es = c.args.edits.now in
    let clear = ap (λ (enc : Encoding). option_or (not_text b) (edits_reason (refusal b enc es))) (sym c.encoding.ensures) ∙ c.in_ok-after-in-Some.ensures.ok in
    let after = c.in_ok-after-in-Some.ensures.after ∙ ap (λ (enc : Encoding). edited b enc es) c.encoding.ensures in
    text_draft c.args.setting.now c.args.overlay.now.files c.args.path.now c.args.version c.args.edits.now c.in-Some.bytes.now (unwrap_or c.in_ok-after-in-Some.after b) c.version-have.result c.in_ok-changes-in-Some.changes c.args.overlay.now.is_tree
    (sym c.in_ok-is_folder.ensures ∙ c.if-branch.false) (sym c.in-Some.ensures) c.version-have.ensures c.in_ok-check_version-in-Some.ensures.ok clear after c.in_ok-changes-in-Some.ensures

pub returns-in-None-clause-refused : goal.returns-in-None-clause-refused
returns-in-None-clause-refused c =
    text_at c.args.setting.now c.args.overlay.now.files c.args.path.now c.args.version c.args.edits.now _ (sym c.in_ok-is_folder.ensures ∙ c.if-branch.false) (sym c.in-None.ensures)
