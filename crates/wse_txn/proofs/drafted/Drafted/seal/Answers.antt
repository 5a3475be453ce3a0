use Rattle.std.proofs.Common.{List, sym, ◌∙◌, ap, subst}
use Rattle.wse_disk.specs.Told.{reading_of, bytes_of_area}
use Rattle.wse_disk.specs.LeavesOnly.{LeavesOnly}
use Rattle.wse_log.specs.Grammar.{JournalRecord}
use Rattle.wse_txn.specs.Journal.{IsSettledJournal}
use Rattle.wse_txn.specs.Images.{IsSealing, IsSealed}
use Rattle.wse_txn.specs.States.{Working, body_of}
use Rattle.wse_txn.specs.Steps.{IsStagedFor}
use Rattle.wse_txn.proofs.drafted.Drafted.seal.Goals as goal

pub returns-in-Ok-clause-during : goal.returns-in-Ok-clause-during
returns-in-Ok-clause-during g c =
    let x = c.self.inside in
    let told = g.D.Disk.told in
    let staged : IsStagedFor (body_of x.plan) c.as_slice.result.now = record { spelled = c.as_slice.ensures.value ∙ c.self.invariant.spelled; short = c.self.invariant.short } in
    subst (λ (v : Working _). (records : List JournalRecord) → IsSettledJournal (bytes_of_area v.area (told v.disk)) records v.gate
    → LeavesOnly (told v.disk) (told c.at.result.disk) (IsSealing v.area records v.gate (body_of v.plan) (reading_of (told v.disk)))) c.self.view_is
    (λ records is. subst (λ d. LeavesOnly (told x.disk) (told d) (IsSealing x.area records x.gate (body_of x.plan) (reading_of (told x.disk)))) (sym (ap (λ (v : Working _). v.disk) c.at.ensures))
    (c.in-Ok.ensures.during c.self.invariant.idle.rests records (body_of x.plan) is staged))

pub returns-in-Ok-clause-sealed : goal.returns-in-Ok-clause-sealed
returns-in-Ok-clause-sealed g c =
    let x = c.self.inside in
    let told = g.D.Disk.told in
    let staged : IsStagedFor (body_of x.plan) c.as_slice.result.now = record { spelled = c.as_slice.ensures.value ∙ c.self.invariant.spelled; short = c.self.invariant.short } in
    subst (λ (v : Working _). (records : List JournalRecord) → IsSettledJournal (bytes_of_area v.area (told v.disk)) records v.gate
    → IsSealed v.area records v.gate (body_of v.plan) (reading_of (told v.disk)) (reading_of (told c.at.result.disk))) c.self.view_is
    (λ records is. subst (λ d. IsSealed x.area records x.gate (body_of x.plan) (reading_of (told x.disk)) (reading_of (told d))) (sym (ap (λ (v : Working _). v.disk) c.at.ensures))
    (c.in-Ok.ensures.sealed records (body_of x.plan) is staged))

pub returns-in-Err-clause-during : goal.returns-in-Err-clause-during
returns-in-Err-clause-during g c =
    let x = c.self.inside in
    let told = g.D.Disk.told in
    let staged : IsStagedFor (body_of x.plan) c.as_slice.result.now = record { spelled = c.as_slice.ensures.value ∙ c.self.invariant.spelled; short = c.self.invariant.short } in
    subst (λ (v : Working _). (records : List JournalRecord) → IsSettledJournal (bytes_of_area v.area (told v.disk)) records v.gate
    → LeavesOnly (told v.disk) (told c.new.result) (IsSealing v.area records v.gate (body_of v.plan) (reading_of (told v.disk)))) c.self.view_is
    (λ records is. subst (λ d. LeavesOnly (told x.disk) (told d) (IsSealing x.area records x.gate (body_of x.plan) (reading_of (told x.disk)))) (sym c.new.ensures)
    (c.in-Err.ensures.during c.self.invariant.idle.rests records (body_of x.plan) is staged))
