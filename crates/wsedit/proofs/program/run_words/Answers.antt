use Rattle.wse_stream.specs.Scene.{disk_at, scene}
use Rattle.wse_words.specs.Words.{asked_by, texts_of}
use Rattle.wse_words.specs.Read.{asked_of}
use Rattle.wsedit.specs.declared.status.Status.TheVariants.{Ran}
use Rattle.wsedit.proofs.StatusLemmas.{not_words}
use Rattle.wsedit.proofs.DoneLemmas.{no_memory, does_asked, causes_by}
use Rattle.wsedit.proofs.program.run_words.Goals as goal

pub returns-in-Ok-Some-clause-words : goal.returns-in-Ok-Some-clause-words
returns-in-Ok-Some-clause-words g c = λ e. absurd (not_words c.do_words-disk.result.end e)

pub returns-in-Ok-Some-clause-does : goal.returns-in-Ok-Some-clause-does
returns-in-Ok-Some-clause-does g c = λ asked is.
    let at = disk_at g.D.Disk.moment_of g.D.Disk.told in
    let done = c.do_words-disk in
    let read = rw c.in-Ok-Some.field-0-is at c.in-Ok-Some.ensures.asked in
    does_asked c.args.limits (scene (g.S.Source.left c.args.source.now) (g.K.Sink.pieces c.args.out.now) (at c.args.disk))
    (scene (g.S.Source.left done.new.source) (g.K.Sink.pieces done.new.out) (at done.result.disk)) (Ran done.result.end) (asked_of c.in-Ok-Some.words) asked (asked_by (texts_of c.args.words.now)) read is done.ensures.does

pub returns-in-Ok-Some-clause-causes : goal.returns-in-Ok-Some-clause-causes
returns-in-Ok-Some-clause-causes g c = causes_by c.do_words-disk.result.end _ _ c.do_words-disk.ensures.causes

pub returns-in-Err-clause-does : goal.returns-in-Err-clause-does
returns-in-Err-clause-does g c = λ asked is. no_memory c.args.limits _ asked (g.met.D.Disk.counts_moments c.args.disk)
