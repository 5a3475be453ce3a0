use Rattle.std.proofs.Common.{refl, subst}
use Rattle.wse_txn.specs.Command.{StandsForOneOf}
use Rattle.wse_history.specs.Step.{step}
use Rattle.wse_element.specs.State.{State}
use Rattle.wse_disk.specs.LeavesOnly.{LeavesOnly}
use Rattle.wse_engine.specs.Exec.{disk_in}
use Rattle.wse_engine.proofs.StandLemmas.{stands_told}
use Rattle.wse_engine.proofs.StepLemmas.{step_of, is_step, unchanged}
use Rattle.wse_engine.proofs.EngineLemmas.{holds, plans, may_record, none_of, some_of, stays_on, tells_same}
use Rattle.wse_engine.proofs.engine.Engine.exec.Goals as goal

pub returns-in-Err-clause-during : goal.returns-in-Err-clause-during
returns-in-Err-clause-during g c = stays_on g.D.Disk.told c.args.self c.args.self.disk (step c.args.self.limits c.args.self.state c.args.command.now) refl (holds g.D.Disk.told _ c.args.self c.self.view_is c.self.invariant)

pub unrecorded-requires-clause-none : goal.unrecorded-requires-clause-none
unrecorded-requires-clause-none g c = none_of c.is_empty.result c.as_slice.result.now c.in-Ok.planned.plan.effects c.is_empty.ensures c.if-is_empty.true c.as_slice.ensures

pub unrecorded-requires-clause-unchanged : goal.unrecorded-requires-clause-unchanged
unrecorded-requires-clause-unchanged g c = unchanged c.self.inside.history.limits c.self.inside.history.state c.args.command.now c.in-Ok.planned c.in-Ok.ensures.planned
    (none_of c.is_empty.result c.as_slice.result.now c.in-Ok.planned.plan.effects c.is_empty.ensures c.if-is_empty.true c.as_slice.ensures)

pub returns-then-is_empty-clause-step : goal.returns-then-is_empty-clause-step
returns-then-is_empty-clause-step g c = is_step c.args.self c.args.command.now c.in-Ok.planned c.unrecorded.result (plans _ c.args.self c.args.command.now c.in-Ok.planned c.self.view_is c.in-Ok.ensures.planned) c.unrecorded.ensures.done

pub returns-then-is_empty-clause-stands : goal.returns-then-is_empty-clause-stands
returns-then-is_empty-clause-stands g c = stands_told (g.D.Disk.told c.unrecorded.result.disk) c.unrecorded.result.area c.unrecorded.result.gate c.unrecorded.result.state c.unrecorded.ensures.stands.at

pub returns-then-is_empty-clause-tells : goal.returns-then-is_empty-clause-tells
returns-then-is_empty-clause-tells g c = tells_same g.D.Disk.told c.args.self.disk c.unrecorded.result.disk c.unrecorded.ensures.disk

pub returns-then-is_empty-clause-during : goal.returns-then-is_empty-clause-during
returns-then-is_empty-clause-during g c = stays_on g.D.Disk.told c.args.self c.unrecorded.result.disk (step c.args.self.limits c.args.self.state c.args.command.now) c.unrecorded.ensures.disk (holds g.D.Disk.told _ c.args.self c.self.view_is c.self.invariant)

pub recorded-requires-clause-may : goal.recorded-requires-clause-may
recorded-requires-clause-may g c = may_record _ c.args.self c.in-Ok.planned.plan c.self.view_is c.in-Ok.ensures.may
    (some_of c.is_empty.result c.as_slice.result.now c.in-Ok.planned.plan.effects c.is_empty.ensures c.if-is_empty.false c.as_slice.ensures)

pub returns-in-Ok-recorded-clause-step : goal.returns-in-Ok-recorded-clause-step
returns-in-Ok-recorded-clause-step g c = is_step c.args.self c.args.command.now c.in-Ok.planned c.in-Ok-recorded.engine (plans _ c.args.self c.args.command.now c.in-Ok.planned c.self.view_is c.in-Ok.ensures.planned) c.in-Ok-recorded.ensures.done

pub returns-in-Ok-recorded-clause-stands : goal.returns-in-Ok-recorded-clause-stands
returns-in-Ok-recorded-clause-stands g c = stands_told (g.D.Disk.told c.in-Ok-recorded.engine.disk) c.in-Ok-recorded.engine.area c.in-Ok-recorded.engine.gate c.in-Ok-recorded.engine.state c.in-Ok-recorded.ensures.stands.at

pub returns-in-Ok-recorded-clause-during : goal.returns-in-Ok-recorded-clause-during
returns-in-Ok-recorded-clause-during g c = λ t. subst (λ (next : State). LeavesOnly (g.D.Disk.told c.args.self.disk) (g.D.Disk.told c.in-Ok-recorded.engine.disk) (StandsForOneOf c.args.self.state next)) (step_of c.args.self c.args.command.now c.in-Ok.planned (plans _ c.args.self c.args.command.now c.in-Ok.planned c.self.view_is c.in-Ok.ensures.planned))
    (c.in-Ok-recorded.ensures.during t)

pub returns-in-Err-recorded-clause-during : goal.returns-in-Err-recorded-clause-during
returns-in-Err-recorded-clause-during g c = λ t. subst (λ (next : State). LeavesOnly (g.D.Disk.told c.args.self.disk) (g.D.Disk.told (disk_in c.in-Err-recorded.fault)) (StandsForOneOf c.args.self.state next)) (step_of c.args.self c.args.command.now c.in-Ok.planned (plans _ c.args.self c.args.command.now c.in-Ok.planned c.self.view_is c.in-Ok.ensures.planned))
    (c.in-Err-recorded.ensures.during t)
