use Rattle.std.proofs.Common.{Option, refl, subst}
use Rattle.wse_disk.proofs.ImageLemmas.{at_rest}
use Rattle.wse_recover.specs.Opening.{EndsWith}
use Rattle.wse_recover.specs.declared.unsettled.Unsettled.{Unsettled}
use Rattle.wse_recover.proofs.OpenedLemmas.{quiet, at_settled}
use Rattle.wse_recover.proofs.unfinished.settled.Goals as goal

pub returns-in-None-clause-at : goal.returns-in-None-clause-at
returns-in-None-clause-at g c = λ s stands.
    at_settled (g.D.Disk.told c.args.disk) c.args.area c.args.gate
    (subst (λ (o : Option Unsettled). EndsWith (g.D.Disk.told c.args.disk) c.args.area c.args.gate o) c.in-None.is c.requires.ends) s stands

pub returns-in-None-clause-during : goal.returns-in-None-clause-during
returns-in-None-clause-during g c = λ s stands.
    quiet (g.D.Disk.told c.args.disk) (g.D.Disk.told c.args.disk) s (g.met.D.Disk.reads_an_image c.args.disk) c.requires.synced refl stands

pub returns-in-None-clause-rests : goal.returns-in-None-clause-rests
returns-in-None-clause-rests g c = at_rest (g.D.Disk.told c.args.disk) (g.met.D.Disk.reads_an_image c.args.disk) c.requires.synced
