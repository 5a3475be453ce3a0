use Rattle.std.proofs.Common.{sym, subst, ◌∙◌}
use Rattle.wse_apply.proofs.OperationLemmas.{resource_draft, resource_refused}
use Rattle.wse_apply.specs.Next.{resource_next}
use Rattle.wse_apply.specs.Draft.{IsStopOf}
use Rattle.wse_apply.specs.declared.stop.Stop.{Stop}
use Rattle.wse_apply.proofs.resource.resource_changes.Goals as goal

pub returns-in_ok-changes-in-Ok-clause-draft : goal.returns-in_ok-changes-in-Ok-clause-draft
returns-in_ok-changes-in-Ok-clause-draft c =
    let new = c.operate_on.new.overlay in
    resource_draft c.args.setting.now c.args.op.now c.args.overlay.now.files new.base c.new-tried.result.files new.files c.in_ok-changes-in-Ok.changes (c.operate_on.ensures.base ∙ c.new-tried.ensures.base) c.new-tried.ensures.files new.is_tree c.in-Ok.ensures.done c.in_ok-changes-in-Ok.ensures

pub returns-in-Err-clause-refused : goal.returns-in-Err-clause-refused
returns-in-Err-clause-refused c =
    subst (λ (s : Stop). IsStopOf (resource_next c.args.setting.now c.args.overlay.now.files c.args.op.now) s) (sym c.stop_for.ensures)
    (resource_refused c.args.setting.now c.args.op.now c.args.overlay.now.files c.new-tried.result.files c.operate_on.new.overlay.files c.in-Err.why c.new-tried.ensures.files c.in-Err.ensures.refused)
