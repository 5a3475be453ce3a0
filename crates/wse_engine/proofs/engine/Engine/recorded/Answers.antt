use Rattle.std.proofs.Common.{rules, sym, ap, subst, ◌∙◌}
use Rattle.wse_history.specs.Planning.{committed, entries_of}
use Rattle.wse_element.specs.State.{State}
use Rattle.wse_codec.specs.Comes.{MayCome}
use Rattle.wse_txn.specs.States.{Working}
use Rattle.wse_engine.specs.Engine.{EngineNow}
use Rattle.wse_engine.proofs.StandLemmas.{leads}
use Rattle.wse_engine.proofs.EngineLemmas.{holds, stays_on, may_be_written, has_done}
use Rattle.wse_engine.proofs.engine.Engine.recorded.Goals as goal

pub returns-in_default-clause-during : goal.returns-in_default-clause-during
returns-in_default-clause-during g c = stays_on g.D.Disk.told c.args.self c.of.result.disk (committed c.args.self.state c.args.plan (entries_of c.args.locks)) (ap (λ (e : EngineNow g.row.D.Denot). e.disk) c.of.ensures ∙ ap (λ (e : EngineNow g.row.D.Denot). e.disk) c.self.view_is) (holds g.D.Disk.told _ c.args.self c.self.view_is c.self.invariant)

pub draft-requires-clause-tree : goal.draft-requires-clause-tree
draft-requires-clause-tree g c = leads (g.D.Disk.told c.self.inside.idle.disk) c.self.inside.idle.area c.self.inside.idle.gate c.self.inside.history.state c.args.plan c.self.invariant.at (subst (λ (s : State). MayCome s c.args.plan) (sym (ap (λ (e : EngineNow g.row.D.Denot). e.state) c.self.view_is)) c.requires.may.comes)

pub written-requires : goal.written-requires
written-requires g c = may_be_written g.D.Disk.told c.self.inside.idle c.args.plan c.in-Ok-draft.drafted c.self.inside.history.state c.reserve.new.self c.in-Ok-draft.ensures.drafted c.in-Ok.ensures.state c.in-Ok.ensures.reserved c.requires.some
    (subst (λ (s : State). MayCome s c.args.plan) (sym (ap (λ (e : EngineNow g.row.D.Denot). e.state) c.self.view_is)) c.requires.may.comes) c.self.invariant

pub returns-in-Ok-written-clause-done : goal.returns-in-Ok-written-clause-done
returns-in-Ok-written-clause-done g c = has_done c.in-Ok-draft.drafted.plan c.args.plan (entries_of c.args.locks) _ c.args.self c.in-Ok-written.engine c.reserve.new.self (ap (λ (d : Working g.row.D.Denot). d.plan) c.in-Ok-draft.ensures.drafted) c.self.view_is
    c.in-Ok.ensures.state c.in-Ok.ensures.limits c.in-Ok.ensures.turns c.requires.some c.in-Ok-written.ensures.entered

pub returns-in-Err-Memory-clause-during : goal.returns-in-Err-Memory-clause-during
returns-in-Err-Memory-clause-during g c = stays_on g.D.Disk.told c.args.self c.of-in-Err-Memory.result.disk (committed c.args.self.state c.args.plan (entries_of c.args.locks))
    (search rules) (holds g.D.Disk.told _ c.args.self c.self.view_is c.self.invariant)
