use Rattle.std.proofs.Common.{sym, ap, subst, ◌∙◌}
use Rattle.std.proofs.lemmas.Result.{IfOk-weaker}
use Rattle.wse_disk.specs.Told.{IsTold}
use Rattle.wse_engine.specs.Engine.{EngineNow}
use Rattle.wse_history.specs.Step.{outcome, step}
use Rattle.wse_store.proofs.StoreLemmas.{same_state, same_text}
use Rattle.wse_store.proofs.server.done.Goals as goal

pub returns-in-Ok-clause-state : goal.returns-in-Ok-clause-state
returns-in-Ok-clause-state g c =
    IfOk-weaker c.answered.result _ _ (λ done. same_state done.0.engine c.in-Ok.engine (step c.args.engine.limits c.args.engine.state c.args.command) c.in-Ok.ensures.step.state) c.answered.ensures.engine

pub returns-in-Ok-clause-limits : goal.returns-in-Ok-clause-limits
returns-in-Ok-clause-limits g c =
    IfOk-weaker c.answered.result _ _ (λ done same. ap (λ (e : EngineNow g.row.D.Denot). e.limits) same ∙ c.in-Ok.ensures.step.limits) c.answered.ensures.engine

pub returns-in-Ok-clause-text : goal.returns-in-Ok-clause-text
returns-in-Ok-clause-text g c =
    IfOk-weaker c.answered.result _ _ (λ done. same_text done.1.items c.args.n c.in-Ok.answer (outcome c.args.engine.limits c.args.engine.state c.args.command).answer c.in-Ok.ensures.step.answered) c.answered.ensures.text

pub returns-in-Ok-clause-told : goal.returns-in-Ok-clause-told
returns-in-Ok-clause-told g c =
    IfOk-weaker c.answered.result _ _ (λ done same told. subst (λ (e : EngineNow g.row.D.Denot). IsTold (g.D.Disk.told e.disk)) (sym same) (c.in-Ok.ensures.tells.on told)) c.answered.ensures.engine
