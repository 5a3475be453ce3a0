use Rattle.std.proofs.Common.{refl, subst}
use Rattle.wse_stream.specs.Runs.{HasCauses}
use Rattle.wse_stream.specs.Scene.{faults}
use Rattle.wse_run.specs.End.{ending_of}
use Rattle.wse_run.specs.Run.{Failed}
use Rattle.wse_run.proofs.OpeningLemmas.{untouched}
use Rattle.wse_run.proofs.EarlierLemmas.{runs_earlier}
use Rattle.wsedit.proofs.running.place_and_run.Goals as goal

pub returns-in-Ok-clause-run : goal.returns-in-Ok-clause-run
returns-in-Ok-clause-run g c =
    let run = c.args.run in
    let moment_of = g.D.Disk.moment_of in
    let told = g.D.Disk.told in
    runs_earlier run.root run.adopt run.limits run.max_input _ _ _ c.run_store.result.end (moment_of c.args.disk) (moment_of c.place.new.self) (told c.args.disk) (told c.place.new.self)
    c.in-Ok.ensures.later c.in-Ok.ensures.same (g.met.D.Disk.counts_moments c.args.disk) (g.met.D.Disk.counts_moments c.place.new.self) c.run_store.ensures.run

pub returns-in-Ok-clause-causes : goal.returns-in-Ok-clause-causes
returns-in-Ok-clause-causes g c =
    let now = faults (g.S.Source.faults c.run_store.new.source) (g.K.Sink.faults c.run_store.new.out) (g.D.Disk.faults c.run_store.result.disk) in
    subst (λ n. HasCauses (ending_of c.run_store.result.end) (faults (g.S.Source.faults c.args.source.now) (g.K.Sink.faults c.args.out.now) n) now) c.in-Ok.ensures.cause.kept c.run_store.ensures.causes

-- the disk failed
pub returns-in-Err-clause-run : goal.returns-in-Err-clause-run
returns-in-Err-clause-run g c =
    let run = c.args.run in
    let moment_of = g.D.Disk.moment_of in
    let told = g.D.Disk.told in
    Failed (untouched run.root run.limits run.max_input _ _ run.adopt (moment_of c.args.disk) (told c.args.disk) (moment_of c.place.new.self) (told c.place.new.self)
    (g.met.D.Disk.counts_moments c.args.disk) c.in-Err.ensures.later c.in-Err.ensures.same) refl
