use Rattle.std.proofs.Common.{◌≡◌, ℕ, List, sym, ap, subst, ◌∙◌}
use Rattle.wse_path.specs.declared.limits.Limits.{Limits}
use Rattle.wse_stream.specs.Runs.{Ending, Runs, HasCauses}
use Rattle.wse_stream.specs.Scene.{disk_at, scene, faults}
use Rattle.wse_server.specs.Serving.{ending_of as ending_of_serving}
use Rattle.wse_recover.specs.Open.{disk_of_fault, fault_may_adopt}
use Rattle.wse_engine.specs.Engine.{EngineNow}
use Rattle.wse_promise.specs.Work.{KeepsWork}
use Rattle.wse_run.specs.End.{ending_of, end_of_served}
use Rattle.wse_run.specs.Run.{setting_of, machine_of, RunsStore}
use Rattle.wse_run.specs.declared.end.RunEnd.{RunEnd}
use Rattle.wse_run.proofs.CompleteLemmas.{complete}
use Rattle.wse_run.proofs.OpeningLemmas.{served, unread, runs_of}
use Rattle.wse_run.proofs.RefusalLemmas.{unopened_by, unopened_causes, ending_served, is_served, served_causes}
use Rattle.wse_run.proofs.run.run_store.Goals as goal

-- the store wasn't opened
pub returns-in-Err-clause-run : goal.returns-in-Err-clause-run
returns-in-Err-clause-run g c =
    let moment_of = g.D.Disk.moment_of in
    let told = g.D.Disk.told in
    let run = c.args.run in
    unopened_by moment_of told g.D.Disk.faults run.adopt run.limits c.args.disk run.root run.max_input _ _ c.in-Err.fault c.unopened.result.disk c.unopened.result.end c.unopened.ensures.disk c.unopened.ensures.end
    (unread run.root run.limits run.max_input _ _ (fault_may_adopt run.adopt c.in-Err.fault) (moment_of c.args.disk) (told c.args.disk) (disk_at moment_of told (disk_of_fault c.in-Err.fault)) (g.met.D.Disk.counts_moments c.args.disk) c.in-Err.ensures.later c.in-Err.ensures.during)
    c.in-Err.ensures.refused

pub returns-in-Err-clause-causes : goal.returns-in-Err-clause-causes
returns-in-Err-clause-causes g c =
    unopened_causes g.D.Disk.moment_of g.D.Disk.told g.D.Disk.faults c.args.run.adopt c.args.run.limits c.args.disk c.in-Err.fault c.unopened.result.disk c.unopened.result.end _ _ c.unopened.ensures.disk c.unopened.ensures.end
    c.in-Err.ensures.refused c.in-Err.ensures.kept

-- lines were served
pub returns-clause-run : goal.returns-clause-run
returns-clause-run g c =
    let moment_of = g.D.Disk.moment_of in
    let told = g.D.Disk.told in
    let run = c.args.run in
    let engine = c.in-Ok.engine in
    let start = c.in-Ok.ensures in
    let end = c.serve-disk.result.end in
    let left = g.S.Source.left c.args.source.now in
    let pieces = g.K.Sink.pieces c.args.out.now in
    let before = scene left pieces (disk_at moment_of told c.args.disk) in
    let now = scene (g.S.Source.left c.serve-disk.new.source) (g.K.Sink.pieces c.serve-disk.new.out) (disk_at moment_of told c.serve-disk.result.disk) in
    subst (λ (e : RunEnd). RunsStore run.root run.adopt run.limits run.max_input before now e) {x = end_of_served run.max_input end} (sym {b = end_of_served run.max_input end} c.end_of_served.ensures)
    (served run.root run.limits run.max_input left pieces run.adopt (moment_of c.args.disk) (told c.args.disk) (disk_at moment_of told engine.disk) now engine.state (end_of_served run.max_input end)
    (g.met.D.Disk.counts_moments c.args.disk) start.later start.opened start.during start.tells.on start.unlocked start.linked start.fits start.adopts
    (subst (λ (e : Ending). Runs (machine_of run.root run.limits) engine.state run.max_input (scene left pieces (disk_at moment_of told engine.disk)) now e) (ending_served run.max_input end)
    (runs_of moment_of told left pieces run.max_input now (ending_of_serving end) run.root c.server_of-server.result.root engine c.server_of-server.result.engine run.limits c.server_of-server.ensures.root c.server_of-server.ensures.engine start.limits c.serve-disk.ensures.run))
    (subst (λ (l : Limits). (lines : List (List ℕ)) → KeepsWork (setting_of run.root l) engine.state lines) start.limits c.kept.ensures)
    (is_served run.max_input end))

pub returns-clause-causes : goal.returns-clause-causes
returns-clause-causes g c =
    let run = c.args.run in
    let end = c.serve-disk.result.end in
    let count = g.D.Disk.faults in
    let source = g.S.Source.faults c.args.source.now in
    let sink = g.K.Sink.faults c.args.out.now in
    let before = faults source sink (count c.args.disk) in
    let now = faults (g.S.Source.faults c.serve-disk.new.source) (g.K.Sink.faults c.serve-disk.new.out) (count c.serve-disk.result.disk) in
    subst (λ (e : RunEnd). HasCauses (ending_of e) before now) {x = end_of_served run.max_input end} (sym {b = end_of_served run.max_input end} c.end_of_served.ensures)
    (served_causes run.max_input end before now
    (subst (λ n. HasCauses (ending_of_serving end) (faults source sink n) now)
    (ap (λ (e : EngineNow g.row.D.Denot). count e.disk) c.server_of-server.ensures.engine ∙ c.in-Ok.ensures.kept) c.serve-disk.ensures.causes))

-- nothing stood in the way
pub returns-in-Err-clause-complete : goal.returns-in-Err-clause-complete
returns-in-Err-clause-complete g c = λ s told is calm.
    complete c.args.run.root c.args.run.adopt c.args.run.limits c.args.run.max_input _ _ s told is _ _ calm c.unopened.result.end (returns-in-Err-clause-causes g c) (returns-in-Err-clause-run g c)

pub returns-clause-complete : goal.returns-clause-complete
returns-clause-complete g c = λ s told is calm.
    complete c.args.run.root c.args.run.adopt c.args.run.limits c.args.run.max_input _ _ s told is _ _ calm c.end_of_served.result (returns-clause-causes g c) (returns-clause-run g c)
