-- The first record, from the scan's answer.
use Rattle.std.proofs.Common.{◌≡◌, inl, inr, ℕ, Bool, List, [], Option, Some, None, Result, Ok, Err, refl, sym, subst}
use Rattle.std.specs.Prelude.{IfOk, IfErr}
use Rattle.wse_disk.specs.declared.area.Area.{Area}
use Rattle.wse_disk.specs.Reading.{area_of}
use Rattle.wse_disk.specs.Standing.{Standing}
use Rattle.wse_log.specs.declared.step.Step.TheVariants.{Entry, End}
use Rattle.wse_log.specs.declared.step.ScanFault.{ScanFault}
use Rattle.wse_log.specs.declared.step.ScanFault.TheVariants as scans
use Rattle.wse_log.specs.Grammar.{JournalRecord, JournalEnd}
use Rattle.wse_log.specs.Scan.{GivesInOrder, answer_behind}
use Rattle.wse_txn.specs.Replay.{NoStoreAt, Gives, begun_with}
use Rattle.wse_recover.specs.declared.fault.ReplayFault.{ReplayFault}
use Rattle.wse_recover.specs.declared.fault.ReplayFault.TheVariants as faults
use Rattle.wse_recover.specs.declared.first_record.Begun.{Begun}
use Rattle.wse_recover.specs.Replaying.{IsReplayed}
use Rattle.wse_recover.specs.Faults.{fault_of_scan}
use Rattle.wse_recover.specs.Held.{held, AreNumbersBounded}
use Rattle.wse_recover.specs.FirstRecord.{IsBegunBy, FailsFirstBody, TellsFirstBody, GivesFirstRead}
use Rattle.wse_recover.proofs.ReplaySteps.{first_replayed, first_unreadable, first_unlinked, first_broken, first_ended}

pub first_read : (told : Option Standing) (area : Area) (body : List ℕ) (gate : ℕ) (settled : Bool) (next : ℕ) (begun : Begun) → GivesInOrder told area 0 (Ok (Entry body gate settled next))
    → IsBegunBy body (held begun.stacks begun.versions) → begun.next ≡ next → GivesFirstRead told area (Ok begun)
first_read None area body gate settled next begun in_order by there = tt
first_read (Some s) area body gate settled next begun in_order by there = λ records ending reads. (
  begun_with by.state,
  sym by.same,
  subst (λ (n : ℕ). IsReplayed records ending n (begun_with by.state) None) (sym there)
      (first_replayed (area_of area s.reading) records ending body gate settled next by.state reads (in_order [] records ending reads refl) by.read by.linked),
)

pub first_failed : (told : Option Standing) (area : Area) (body : List ℕ) (gate : ℕ) (settled : Bool) (next : ℕ) (fault : ReplayFault) → GivesInOrder told area 0 (Ok (Entry body gate settled next))
    → TellsFirstBody body gate fault → GivesFirstRead told area (Err fault)
first_failed None area body gate settled next fault in_order tells = tt
first_failed (Some s) area body gate settled next (faults.NotAStore at) in_order tells = λ records ending reads.
    fails records ending (in_order [] records ending reads refl) tells
  where
    fails : (records : List JournalRecord) (ending : JournalEnd) → Ok (Entry body gate settled next) ≡ answer_behind [] records ending → FailsFirstBody body gate at → Gives records ending (NoStoreAt at)
    fails records ending e (inl f) = subst (λ (n : ℕ). Gives records ending (NoStoreAt n)) (sym f.2) (first_unreadable records ending body gate settled next e f.0 f.1)
    fails records ending e (inr f) = subst (λ (n : ℕ). Gives records ending (NoStoreAt n)) (sym f.3) (first_unlinked records ending body gate settled next e f.0 f.1 f.2)
first_failed (Some s) area body gate settled next faults.Disk in_order tells = λ records ending reads. tt
first_failed (Some s) area body gate settled next faults.Memory in_order tells = λ records ending reads. tt

-- What is begun by the body that was scanned, or why nothing is.
pub first_begun : (told : Option Standing) (area : Area) (body : List ℕ) (gate : ℕ) (settled : Bool) (next : ℕ) (result : Result Begun ReplayFault) → GivesInOrder told area 0 (Ok (Entry body gate settled next))
    → IfOk result (λ begun. IsBegunBy body (held begun.stacks begun.versions)) → IfOk result (λ begun. begun.next ≡ next) → IfErr result (TellsFirstBody body gate) → GivesFirstRead told area result
first_begun told area body gate settled next (Ok begun) in_order by there tells = first_read told area body gate settled next begun in_order by there
first_begun told area body gate settled next (Err fault) in_order by there tells = first_failed told area body gate settled next fault in_order tells

pub first_wrong : (told : Option Standing) (area : Area) (fault : ScanFault) → GivesInOrder told area 0 (Err fault) → GivesFirstRead told area (Err (fault_of_scan fault))
first_wrong None area fault in_order = tt
first_wrong (Some s) area (scans.NotALog at) in_order = λ records ending reads. first_broken records ending at (in_order [] records ending reads refl)
first_wrong (Some s) area scans.Disk in_order = λ records ending reads. tt
first_wrong (Some s) area scans.Memory in_order = λ records ending reads. tt

-- The first piece is no end.
pub first_end : (told : Option Standing) (area : Area) (gate : ℕ) → GivesInOrder told area 0 (Ok (End gate)) → GivesFirstRead told area (Err (faults.NotAStore gate))
first_end None area gate in_order = tt
first_end (Some s) area gate in_order = λ records ending reads. absurd (first_ended (area_of area s.reading) records ending gate reads (in_order [] records ending reads refl))

-- What a linked state keeps is within its bounds.
pub first_bounded : (body : List ℕ) (begun : Begun) → IsBegunBy body (held begun.stacks begun.versions) → AreNumbersBounded (held begun.stacks begun.versions)
first_bounded body begun by = subst AreNumbersBounded (sym by.same) (record { versions = by.linked.versions; known = by.linked.known })
