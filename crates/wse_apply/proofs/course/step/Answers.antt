use Rattle.std.proofs.lemmas.Result.{on_ok_weaker, IfErr-weaker}
use Rattle.wse_apply.proofs.OperationLemmas.{skipped_next, draft_leads, accepted_next, stopped_next}
use Rattle.wse_apply.proofs.course.step.Goals as goal

pub returns-then-operation-clause-done : goal.returns-then-operation-clause-done
returns-then-operation-clause-done c = skipped_next c.args.setting.now c.args.overlay.now.files c.args.operation.now c.if-operation.true

pub accept-requires-clause-lead : goal.accept-requires-clause-lead
accept-requires-clause-lead c = draft_leads c.args.setting.now c.args.overlay.now.files _ c.in_ok-changes.changes c.args.overlay.now.is_tree c.in_ok-changes.ensures.draft

pub returns-clause-done : goal.returns-clause-done
returns-clause-done c =
    on_ok_weaker c.accept.result (λ h. accepted_next c.args.setting.now c.args.overlay.now.files c.accept.new.overlay.files c.args.operation.now c.in_ok-changes.changes c.if-operation.false c.in_ok-changes.ensures.draft h) c.accept.ensures.done

pub returns-clause-refused : goal.returns-clause-refused
returns-clause-refused c =
    IfErr-weaker c.accept.result _ _ (λ why h. stopped_next c.args.setting.now c.args.overlay.now.files c.args.operation.now c.in_ok-changes.changes why c.if-operation.false c.in_ok-changes.ensures.draft h) c.accept.ensures.refused
