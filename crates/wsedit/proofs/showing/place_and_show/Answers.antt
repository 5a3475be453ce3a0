use Rattle.std.proofs.Common.{refl, subst}
use Rattle.wse_stream.specs.Scene.{disk_at}
use Rattle.wse_stream.specs.Causes.{CountsFault}
use Rattle.wse_run.specs.End.{ending_of}
use Rattle.wsedit.proofs.ShowingLemmas.{shows_earlier, leaves_untouched}
use Rattle.wsedit.proofs.showing.place_and_show.Goals as goal

pub returns-in-Ok-clause-shows : goal.returns-in-Ok-clause-shows
returns-in-Ok-clause-shows g c =
    let moment_of = g.D.Disk.moment_of in
    let told = g.D.Disk.told in
    shows_earlier c.args.limits (moment_of c.args.disk) (moment_of c.place.new.self) (told c.args.disk) (told c.place.new.self) (disk_at moment_of told c.show_store.result.disk) _ _ c.show_store.result.end
    c.in-Ok.ensures.later c.in-Ok.ensures.same (g.met.D.Disk.counts_moments c.args.disk) (g.met.D.Disk.counts_moments c.place.new.self) c.show_store.ensures.shows

pub returns-in-Ok-clause-cause : goal.returns-in-Ok-clause-cause
returns-in-Ok-clause-cause g c =
    subst (λ n. CountsFault (ending_of c.show_store.result.end).disk n (g.D.Disk.faults c.show_store.result.disk)) c.in-Ok.ensures.cause.kept c.show_store.ensures.cause

-- the disk failed
pub returns-in-Err-clause-shows : goal.returns-in-Err-clause-shows
returns-in-Err-clause-shows g c =
    let moment_of = g.D.Disk.moment_of in
    let told = g.D.Disk.told in
    record {
      later = c.in-Err.ensures.later;
      images = leaves_untouched (moment_of c.args.disk) (told c.args.disk) (moment_of c.place.new.self) (told c.place.new.self) (g.met.D.Disk.counts_moments c.args.disk) c.in-Err.ensures.same;
      shown = refl;
    }
