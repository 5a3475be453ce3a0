use Rattle.std.proofs.Common.{refl}
use Rattle.wse_stream.specs.Scene.{disk_at, scene}
use Rattle.wsedit.proofs.DoneLemmas.{makes_words, runs_words, shows_words, made_causes}
use Rattle.wsedit.proofs.ShowingLemmas.{shown_causes}
use Rattle.wsedit.proofs.program.do_words.Goals as goal

pub returns-in-Init-clause-does : goal.returns-in-Init-clause-does
returns-in-Init-clause-does g c =
    let at = disk_at g.D.Disk.moment_of g.D.Disk.told in
    let left = g.S.Source.left c.args.source.now in
    let pieces = g.K.Sink.pieces c.args.out.now in
    makes_words c.args.limits (scene left pieces (at c.args.disk)) (scene left pieces (at c.place_and_make.result.disk)) c.args.words c.in-Init.places c.place_and_make.result.end c.in-Init.is
    (record { source = refl; sink = refl; later = c.place_and_make.ensures.later; made = c.place_and_make.ensures.made })

pub returns-in-Init-clause-causes : goal.returns-in-Init-clause-causes
returns-in-Init-clause-causes g c = made_causes c.args.limits _ _ c.place_and_make.result.end _ _ _ _ c.place_and_make.ensures.made c.place_and_make.ensures.cause

pub returns-in-Run-clause-does : goal.returns-in-Run-clause-does
returns-in-Run-clause-does g c =
    let at = disk_at g.D.Disk.moment_of g.D.Disk.told in
    let ran = c.place_and_run in
    runs_words c.args.limits (scene (g.S.Source.left c.args.source.now) (g.K.Sink.pieces c.args.out.now) (at c.args.disk))
    (scene (g.S.Source.left ran.new.source) (g.K.Sink.pieces ran.new.out) (at ran.result.disk)) c.args.words c.in-Run.places c.in-Run.root c.in-Run.options ran.result.end c.in-Run.is ran.ensures.run

pub returns-in-Show-clause-does : goal.returns-in-Show-clause-does
returns-in-Show-clause-does g c =
    let at = disk_at g.D.Disk.moment_of g.D.Disk.told in
    let left = g.S.Source.left c.args.source.now in
    let shown = c.place_and_show in
    shows_words c.args.limits (scene left (g.K.Sink.pieces c.args.out.now) (at c.args.disk)) (scene left (g.K.Sink.pieces shown.new.out) (at shown.result.disk)) c.args.words c.in-Show.places shown.result.end c.in-Show.is
    (record { source = refl; shows = shown.ensures.shows })

pub returns-in-Show-clause-causes : goal.returns-in-Show-clause-causes
returns-in-Show-clause-causes g c =
    let shown = c.place_and_show in
    shown_causes c.args.limits _ _ _ _ shown.result.end _ _ _ _ _ shown.ensures.shows.shown shown.ensures.sink shown.ensures.cause
