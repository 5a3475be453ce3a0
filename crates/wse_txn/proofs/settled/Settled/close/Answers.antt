use Rattle.std.proofs.Common.{List, sym, subst}
use Rattle.wse_disk.specs.Told.{reading_of, bytes_of_area}
use Rattle.wse_disk.specs.LeavesOnly.{LeavesOnly}
use Rattle.wse_disk.proofs.ImageLemmas.{at_rest}
use Rattle.wse_log.specs.Grammar.{JournalRecord}
use Rattle.wse_txn.specs.Journal.{IsUnsettledJournal}
use Rattle.wse_txn.specs.Images.{IsClosing, IsClosed}
use Rattle.wse_txn.specs.States.{Working, body_of}
use Rattle.wse_txn.proofs.settled.Settled.close.Goals as goal

pub returns-in-Ok-clause-during : goal.returns-in-Ok-clause-during
returns-in-Ok-clause-during g c =
    let x = c.self.inside in
    let told = g.D.Disk.told in
    let rests = at_rest (told x.disk) (g.met.D.Disk.reads_an_image x.disk) c.self.invariant.synced in
    subst (λ (v : Working _). (records : List JournalRecord) → IsUnsettledJournal (bytes_of_area v.area (told v.disk)) records (body_of v.plan) v.gate
    → LeavesOnly (told v.disk) (told c.at.result.disk) (IsClosing v.area records v.gate (body_of v.plan) (reading_of (told v.disk)))) c.self.view_is
    (λ records is. subst (λ d. LeavesOnly (told x.disk) (told d) (IsClosing x.area records x.gate (body_of x.plan) (reading_of (told x.disk)))) (sym c.at.ensures.disk)
    (c.in-Ok.ensures.during rests records (body_of x.plan) is))

pub returns-in-Err-clause-during : goal.returns-in-Err-clause-during
returns-in-Err-clause-during g c =
    let x = c.self.inside in
    let told = g.D.Disk.told in
    let rests = at_rest (told x.disk) (g.met.D.Disk.reads_an_image x.disk) c.self.invariant.synced in
    subst (λ (v : Working _). (records : List JournalRecord) → IsUnsettledJournal (bytes_of_area v.area (told v.disk)) records (body_of v.plan) v.gate
    → LeavesOnly (told v.disk) (told c.new.result) (IsClosing v.area records v.gate (body_of v.plan) (reading_of (told v.disk)))) c.self.view_is
    (λ records is. subst (λ d. LeavesOnly (told x.disk) (told d) (IsClosing x.area records x.gate (body_of x.plan) (reading_of (told x.disk)))) (sym c.new.ensures)
    (c.in-Err.ensures.during rests records (body_of x.plan) is))

pub returns-in-Ok-clause-closed : goal.returns-in-Ok-clause-closed
returns-in-Ok-clause-closed g c =
    let x = c.self.inside in
    let told = g.D.Disk.told in
    subst (λ (v : Working _). (records : List JournalRecord) → IsUnsettledJournal (bytes_of_area v.area (told v.disk)) records (body_of v.plan) v.gate
    → IsClosed v.area records v.gate (body_of v.plan) (reading_of (told v.disk)) (reading_of (told c.at.result.disk))) c.self.view_is
    (λ records is. subst (λ d. IsClosed x.area records x.gate (body_of x.plan) (reading_of (told x.disk)) (reading_of (told d))) (sym c.at.ensures.disk)
    (c.in-Ok.ensures.closed records (body_of x.plan) is))
