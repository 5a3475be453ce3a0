use Rattle.std.proofs.Common.{◌⊎◌, sym, ap, subst, ◌∙◌}
use Rattle.wse_element.specs.State.{State}
use Rattle.wse_disk.specs.Told.{WhereTold, MayLeave}
use Rattle.wse_disk.specs.LeavesOnly.{LeavesOnly}
use Rattle.wse_txn.specs.Command.{IsAt}
use Rattle.wse_recover.specs.Open.{AdoptsWithin, StandsForOpened}
use Rattle.wse_engine.specs.Engine.{EngineNow}
use Rattle.wse_engine.proofs.engine.Engine.start.Goals as goal

pub of-requires : goal.of-requires
of-requires g c =
    let o = c.in-Ok.field-0 in
    record {
      rests = c.in-Ok.ensures.rests;
      at = λ t. subst (λ (s : State). IsAt s o.idle.area o.idle.gate (g.D.Disk.told o.idle.disk)) (sym c.new-history.ensures.state) (c.in-Ok.ensures.at t);
    }

pub returns-in-Ok-clause-adopts : goal.returns-in-Ok-clause-adopts
returns-in-Ok-clause-adopts g c =
    subst (λ (s : State). WhereTold (g.D.Disk.told c.args.disk) (λ t. AdoptsWithin c.args.limits s t.reading))
    (sym (ap (λ (e : EngineNow g.row.D.Denot). e.state) c.of.ensures ∙ c.new-history.ensures.state)) c.in-Ok.ensures.adopts

pub returns-in-Ok-clause-during : goal.returns-in-Ok-clause-during
returns-in-Ok-clause-during g c = λ s stands.
    let told = g.D.Disk.told in
    subst (λ (d : g.row.D.Denot). LeavesOnly (told c.args.disk) (told d) (λ image. MayLeave (told c.args.disk) image ⊎ StandsForOpened c.args.adopt s image))
    (sym (ap (λ (e : EngineNow g.row.D.Denot). e.disk) c.of.ensures)) (c.in-Ok.ensures.during s stands)
