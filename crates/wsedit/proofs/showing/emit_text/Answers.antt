use Rattle.wsedit.proofs.ShowingLemmas.{emits_of}
use Rattle.wsedit.proofs.showing.emit_text.Goals as goal

pub returns-in-Ok-clause-emitted : goal.returns-in-Ok-clause-emitted
returns-in-Ok-clause-emitted g c =
    let e = c.in-Ok.ensures.added in
    (emits_of c.args.text.now (g.D.Disk.moment_of c.args.disk.now) _ _ e.0 e.1 e.2 e.3, e.4)

pub returns-in-Err-clause-emitted : goal.returns-in-Err-clause-emitted
returns-in-Err-clause-emitted g c =
    let e = c.in-Err.ensures.added in
    emits_of c.args.text.now (g.D.Disk.moment_of c.args.disk.now) _ _ e.0 e.1 e.2 e.3
