use Rattle.std.proofs.Common.{Option, sym, subst, ◌∙◌}
use Rattle.wse_disk.specs.Standing.{Standing}
use Rattle.wse_disk.specs.LeavesOnly.{LeavesOnly}
use Rattle.wse_txn.specs.Command.{IsAt}
use Rattle.wse_txn.specs.States.{IsSealedFor}
use Rattle.wse_txn.specs.Stands.{StandsFor}
use Rattle.wse_recover.proofs.OpeningLemmas.{sealed_for}
use Rattle.wse_recover.proofs.OpenedLemmas.{quiet, finished_at, finished_leaves}
use Rattle.wse_recover.proofs.unfinished.finish_last.Goals as goal

pub at-requires : goal.at-requires
at-requires g c =
    let told = g.D.Disk.told in
    let x = c.args in
    subst (λ (t : Option Standing). IsSealedFor t x.area x.gate c.in-Ok.plan) (sym c.plan_on.ensures.same)
    (sealed_for (told x.disk) x.area x.gate x.last c.in-Ok.plan c.requires.synced c.requires.behind c.requires.small c.requires.come c.in-Ok.ensures.plan c.requires.ends)

pub returns-in-Ok-finish-clause-at : goal.returns-in-Ok-finish-clause-at
returns-in-Ok-finish-clause-at g c = λ s stands.
    let told = g.D.Disk.told in
    let x = c.args in
    let now = finished_at told x.disk x.area x.gate x.last c.in-Ok.plan c.requires.come c.in-Ok.ensures.plan c.requires.ends c.at.result c.plan_on.new.disk c.plan_on.ensures.same c.at.ensures
    c.in-Ok-finish.idle c.in-Ok-finish.ensures.at c.in-Ok-finish.ensures.same s stands in
    subst (λ d. IsAt s x.area x.gate (told d)) (sym c.into_disk.ensures) now

pub returns-in-Ok-finish-clause-during : goal.returns-in-Ok-finish-clause-during
returns-in-Ok-finish-clause-during g c = λ s stands.
    let told = g.D.Disk.told in
    let x = c.args in
    let leaves = finished_leaves told x.disk x.area x.gate x.last c.in-Ok.plan c.requires.come c.in-Ok.ensures.plan c.requires.ends c.at.result c.plan_on.new.disk c.plan_on.ensures.same c.at.ensures
    c.in-Ok-finish.idle.disk c.in-Ok-finish.ensures.during s stands in
    subst (λ d. LeavesOnly (told x.disk) (told d) (StandsFor s)) (sym c.into_disk.ensures) leaves

pub returns-in-Err-clause-during : goal.returns-in-Err-clause-during
returns-in-Err-clause-during g c = λ s stands.
    let told = g.D.Disk.told in
    let x = c.args in
    finished_leaves told x.disk x.area x.gate x.last c.in-Ok.plan c.requires.come c.in-Ok.ensures.plan c.requires.ends c.at.result c.plan_on.new.disk c.plan_on.ensures.same c.at.ensures
    c.in-Err.disk c.in-Err.ensures.during s stands

pub returns-in-Err-Disk-clause-during : goal.returns-in-Err-Disk-clause-during
returns-in-Err-Disk-clause-during g c = λ s stands.
    quiet (g.D.Disk.told c.args.disk) (g.D.Disk.told c.plan_on.new.disk) s (g.met.D.Disk.reads_an_image c.args.disk) c.requires.synced c.plan_on.ensures.same stands

pub returns-in-Err-InTheWay-clause-during : goal.returns-in-Err-InTheWay-clause-during
returns-in-Err-InTheWay-clause-during g c = λ s stands.
    quiet (g.D.Disk.told c.args.disk) (g.D.Disk.told c.plan_on.new.disk) s (g.met.D.Disk.reads_an_image c.args.disk) c.requires.synced c.plan_on.ensures.same stands

pub returns-in-Err-Memory-clause-during : goal.returns-in-Err-Memory-clause-during
returns-in-Err-Memory-clause-during g c = λ s stands.
    quiet (g.D.Disk.told c.args.disk) (g.D.Disk.told c.plan_on.new.disk) s (g.met.D.Disk.reads_an_image c.args.disk) c.requires.synced c.plan_on.ensures.same stands
