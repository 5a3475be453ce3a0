use Rattle.std.proofs.Common.{false, sym, subst}
use Rattle.wse_stream.specs.Scene.{disk_at}
use Rattle.wse_stream.specs.Causes.{CountsFault}
use Rattle.wse_run.specs.End.{ending_of}
use Rattle.wse_run.proofs.RefusalLemmas.{unopened_causes}
use Rattle.wsedit.specs.Showing.{Shows}
use Rattle.wsedit.proofs.ShowingLemmas.{leaves_shown, opens_of, shown_opened, emitted_cause, shown_refused}
use Rattle.wsedit.proofs.showing.show_store.Goals as goal

pub returns-in-Ok-clause-shows : goal.returns-in-Ok-clause-shows
returns-in-Ok-clause-shows g c =
    let moment_of = g.D.Disk.moment_of in
    let told = g.D.Disk.told in
    let engine = c.in-Ok.engine in
    let start = c.in-Ok.ensures in
    let pieces = g.K.Sink.pieces c.args.out.now in
    let shown = g.K.Sink.pieces c.emit_store-end.new.out in
    subst (λ d. Shows c.args.limits (disk_at moment_of told c.args.disk) (disk_at moment_of told d) pieces shown c.emit_store-end.result) (sym c.into_disk.ensures.disk)
    (record {
      later = start.later;
      images = leaves_shown (moment_of c.args.disk) (told c.args.disk) (disk_at moment_of told engine.disk) (g.met.D.Disk.counts_moments c.args.disk) start.during;
      shown = shown_opened c.args.limits (disk_at moment_of told c.args.disk) (disk_at moment_of told engine.disk) engine.state pieces shown c.emit_store-end.result start.later
          (opens_of c.args.limits (told c.args.disk) (told engine.disk) engine.area engine.gate engine.state start.opened start.linked start.fits start.stands)
          c.emit_store-end.ensures.emitted;
    })

pub returns-in-Ok-clause-cause : goal.returns-in-Ok-clause-cause
returns-in-Ok-clause-cause g c =
    let count = g.D.Disk.faults in
    subst (λ d. CountsFault (ending_of c.emit_store-end.result).disk (count c.args.disk) (count d)) (sym c.into_disk.ensures.disk)
    (emitted_cause _ _ _ _ _ c.emit_store-end.result (count c.args.disk) (count c.in-Ok.engine.disk) c.emit_store-end.ensures.emitted c.in-Ok.ensures.kept)

-- the store wasn't opened
pub returns-in-Err-clause-shows : goal.returns-in-Err-clause-shows
returns-in-Err-clause-shows g c =
    shown_refused g.D.Disk.moment_of g.D.Disk.told g.D.Disk.faults c.args.limits c.args.disk _ c.in-Err.fault c.unopened.result.disk c.unopened.result.end c.unopened.ensures.disk c.unopened.ensures.end
    (g.met.D.Disk.counts_moments c.args.disk) c.in-Err.ensures.later c.in-Err.ensures.during c.in-Err.ensures.refused

pub returns-in-Err-clause-sink : goal.returns-in-Err-clause-sink
returns-in-Err-clause-sink g c =
    (unopened_causes g.D.Disk.moment_of g.D.Disk.told g.D.Disk.faults false c.args.limits c.args.disk c.in-Err.fault c.unopened.result.disk c.unopened.result.end 0 _ c.unopened.ensures.disk c.unopened.ensures.end
    c.in-Err.ensures.refused c.in-Err.ensures.kept).sink

pub returns-in-Err-clause-cause : goal.returns-in-Err-clause-cause
returns-in-Err-clause-cause g c =
    (unopened_causes g.D.Disk.moment_of g.D.Disk.told g.D.Disk.faults false c.args.limits c.args.disk c.in-Err.fault c.unopened.result.disk c.unopened.result.end 0 0 c.unopened.ensures.disk c.unopened.ensures.end
    c.in-Err.ensures.refused c.in-Err.ensures.kept).disk
