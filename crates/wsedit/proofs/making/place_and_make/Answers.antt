use Rattle.std.proofs.Common.{Option, subst}
use Rattle.wse_disk.specs.Standing.{Standing}
use Rattle.wse_stream.specs.Causes.{CountsFault}
use Rattle.wse_run.specs.End.{ending_of}
use Rattle.wsedit.specs.Making.{HasMadeOr}
use Rattle.wsedit.proofs.making.place_and_make.Goals as goal

pub returns-in-Ok-clause-made : goal.returns-in-Ok-clause-made
returns-in-Ok-clause-made g c =
    subst (λ (t : Option Standing). HasMadeOr c.args.limits.now t (g.D.Disk.told c.make_store.result.disk) c.make_store.result.end) c.in-Ok.ensures.same c.make_store.ensures.made

pub returns-in-Ok-clause-cause : goal.returns-in-Ok-clause-cause
returns-in-Ok-clause-cause g c =
    subst (λ n. CountsFault (ending_of c.make_store.result.end).disk n (g.D.Disk.faults c.make_store.result.disk)) c.in-Ok.ensures.cause.kept c.make_store.ensures.cause
