use Rattle.std.proofs.Common.{refl, ap}
use Rattle.wse_history.specs.Planning.{entries_of}
use Rattle.wse_engine.specs.Engine.{EngineNow}
use Rattle.wse_engine.proofs.EngineLemmas.{engine_entered, has_entered, leaves_entered}
use Rattle.wse_engine.proofs.exec.written.Goals as goal

pub of-requires : goal.of-requires
of-requires g c = engine_entered (g.D.Disk.told c.args.drafted.disk) (g.D.Disk.told c.in-Ok.idle.disk) c.in-Ok.idle.area c.in-Ok.idle.gate c.args.history.state c.commit.new.self.state c.in-Ok.plan c.args.drafted.plan (entries_of c.args.locks)
    c.in-Ok.ensures.plan c.commit.ensures.state c.requires.some c.in-Ok.ensures.rests c.in-Ok.ensures.tells (λ t. c.in-Ok.ensures.stands c.args.history.state (c.requires.at t) c.requires.may)

pub returns-in-Ok-clause-entered : goal.returns-in-Ok-clause-entered
returns-in-Ok-clause-entered g c = has_entered c.in-Ok.plan c.args.drafted.plan (entries_of c.args.locks) c.args.history _ c.of.result c.of.ensures c.in-Ok.ensures.plan c.requires.some c.commit.ensures.state c.commit.ensures.limits c.commit.ensures.turns

pub returns-in-Ok-clause-during : goal.returns-in-Ok-clause-during
returns-in-Ok-clause-during g c = λ t. leaves_entered g.D.Disk.told c.args.drafted.disk c.in-Ok.idle.disk c.of.result.disk c.args.history.state c.args.drafted.plan (entries_of c.args.locks) (ap (λ (e : EngineNow g.row.D.Denot). e.disk) c.of.ensures) c.requires.some
    (c.in-Ok.ensures.during c.args.history.state (c.requires.at t) c.requires.may)

pub returns-in-Err-clause-during : goal.returns-in-Err-clause-during
returns-in-Err-clause-during g c = λ t. leaves_entered g.D.Disk.told c.args.drafted.disk c.in-Err.disk c.in-Err.disk c.args.history.state c.args.drafted.plan (entries_of c.args.locks) refl c.requires.some
    (c.in-Err.ensures.during c.args.history.state (c.requires.at t) c.requires.may)
