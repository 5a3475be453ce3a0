use Rattle.wse_history.specs.Planning.{entries_of}
use Rattle.wse_engine.proofs.EngineLemmas.{engine_unrecorded, done_as}
use Rattle.wse_engine.proofs.engine.Engine.unrecorded.Goals as goal

pub of-requires : goal.of-requires
of-requires g c = engine_unrecorded (g.D.Disk.told c.self.inside.idle.disk) c.self.inside.idle.area c.self.inside.idle.gate c.self.inside.history.state c.commit.new.self.state c.args.plan (entries_of c.args.locks) c.requires.none c.commit.ensures.state c.self.invariant

pub returns-clause-done : goal.returns-clause-done
returns-clause-done g c = done_as c.args.plan (entries_of c.args.locks) _ c.args.self _ c.of.result c.self.view_is c.of.ensures (record {
  state = c.commit.ensures.state;
  limits = c.commit.ensures.limits;
  still = c.commit.ensures.still;
  turns = c.commit.ensures.turns;
})
