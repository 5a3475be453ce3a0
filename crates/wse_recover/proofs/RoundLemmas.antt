-- One round, from the scan's answer.
use Rattle.std.proofs.Common.{◌≡◌, inl, inr, ℕ, Bool, List, ◌++◌, length, Option, Some, None, Result, Ok, Err, sym, ap, subst, ◌∙◌}
use Rattle.wse_disk.specs.declared.area.Area.{Area}
use Rattle.wse_disk.specs.Reading.{area_of}
use Rattle.wse_disk.specs.Standing.{Standing}
use Rattle.wse_element.specs.State.{Kept, stacks_of}
use Rattle.wse_recover.specs.declared.unsettled.Unsettled.{Unsettled}
use Rattle.wse_recover.specs.Unsettled.{IsKeptOf}
use Rattle.wse_element.specs.Effects.{kept_after}
use Rattle.wse_element.specs.Applicable.{first_refused_of_kept}
use Rattle.wse_log.specs.declared.step.Step.{Step}
use Rattle.wse_log.specs.declared.step.Step.TheVariants.{Entry, End}
use Rattle.wse_log.specs.declared.step.ScanFault.{ScanFault}
use Rattle.wse_log.specs.declared.step.ScanFault.TheVariants as scans
use Rattle.wse_log.specs.Grammar.{JournalRecord, JournalEnd, Reads, stretch}
use Rattle.wse_log.specs.Scan.{GivesInOrder, IsUnlessFault, answer_behind}
use Rattle.wse_log.proofs.Fronts.{stretch-some}
use Rattle.wse_txn.specs.Replay.{Replayed, NoStoreAt, Gives}
use Rattle.wse_recover.specs.Replaying.{IsReplayed}
use Rattle.wse_recover.proofs.ReplaySteps.{more_replayed, unreadable, refused, ended, broken}
use Rattle.wse_recover.specs.declared.fault.ReplayFault.{ReplayFault}
use Rattle.wse_recover.specs.declared.fault.ReplayFault.TheVariants as faults
use Rattle.wse_recover.specs.declared.fault.Round.TheVariants.{Entered, Ended}
use Rattle.wse_recover.specs.Faults.{fault_of_scan}
use Rattle.wse_recover.specs.Round.{Enters, FailsBody, TellsBody, GivesRound}

-- what the scan answers behind the records that were read
answer : (area : List ℕ) (records : List JournalRecord) (ending : JournalEnd) (place : ℕ) (left : Replayed) (last : Option Unsettled) (result : Result Step ScanFault)
    → ((before after : List JournalRecord) (ending : JournalEnd) → Reads area (before ++ after) ending → place ≡ length (stretch before) → IsUnlessFault result (answer_behind before after ending))
    → Reads area records ending → (is : IsReplayed records ending place left last) → IsUnlessFault result (answer_behind is.before is.more ending)
answer area records ending place left last result in_order reads is =
    in_order is.before is.more ending (subst (λ (rs : List JournalRecord). Reads area rs ending) is.all reads) (is.gate ∙ ap (λ (bs : List ℕ). length bs) (sym (stretch-some is.before is.some)))

pub round_entered : (told : Option Standing) (area : Area) (place : ℕ) (old new : Kept) (body : List ℕ) (gate : ℕ) (settled : Bool) (next : ℕ) (kept : Option Unsettled) → GivesInOrder told area place (Ok (Entry body gate settled next)) → Enters settled old body new kept
    → GivesRound told area place old new (Ok (Entered kept next))
round_entered None area place old new body gate settled next kept in_order enters = tt
round_entered (Some s) area place old new body gate settled next kept in_order enters = λ records ending reads left last same is.
    let e = answer (area_of area s.reading) records ending place left last (Ok (Entry body gate settled next)) in_order reads is in (
      enters.effects,
      enters.left ∙ ap (λ (k : Kept). kept_after k enters.effects) (sym same),
      more_replayed records ending place left last is body gate settled next e enters.effects kept enters.read enters.spelled (ap (λ (k : Kept). first_refused_of_kept k enters.effects) same ∙ enters.may)
          (subst (λ (k : Kept). IsKeptOf settled (stacks_of k) enters.effects kept) (sym same) enters.ends),
    )

pub round_failed : (told : Option Standing) (area : Area) (place : ℕ) (old new : Kept) (body : List ℕ) (gate : ℕ) (settled : Bool) (next : ℕ) (fault : ReplayFault) → GivesInOrder told area place (Ok (Entry body gate settled next)) → TellsBody old body gate fault
    → GivesRound told area place old new (Err fault)
round_failed None area place old new body gate settled next fault in_order tells = tt
round_failed (Some s) area place old new body gate settled next (faults.NotAStore at) in_order tells = λ records ending reads left last same is.
    fails records ending left last same is (answer (area_of area s.reading) records ending place left last (Ok (Entry body gate settled next)) in_order reads is) tells
  where
    fails : (records : List JournalRecord) (ending : JournalEnd) (left : Replayed) (last : Option Unsettled) → left.kept ≡ old → (is : IsReplayed records ending place left last) → Ok (Entry body gate settled next) ≡ answer_behind is.before is.more ending → FailsBody old body gate at → Gives records ending (NoStoreAt at)
    fails records ending left last same is e (inl f) =
        subst (λ (n : ℕ). Gives records ending (NoStoreAt n)) (sym f.2) (unreadable records ending place left last is body gate settled next e f.0 f.1)
    fails records ending left last same is e (inr f) =
        subst (λ (n : ℕ). Gives records ending (NoStoreAt n)) (sym f.3)
        (refused records ending place left last is body gate settled next e f.0 f.1 (λ none. f.2 (ap (λ (k : Kept). first_refused_of_kept k f.0) (sym same) ∙ none)))
round_failed (Some s) area place old new body gate settled next faults.Disk in_order tells = λ records ending reads left last same is. tt
round_failed (Some s) area place old new body gate settled next faults.Memory in_order tells = λ records ending reads left last same is. tt

pub round_ended : (told : Option Standing) (area : Area) (place : ℕ) (old : Kept) (gate : ℕ) → GivesInOrder told area place (Ok (End gate)) → GivesRound told area place old old (Ok (Ended gate))
round_ended None area place old gate in_order = tt
round_ended (Some s) area place old gate in_order = λ records ending reads left last same is.
    let e = ended records ending place left last is gate (answer (area_of area s.reading) records ending place left last (Ok (End gate)) in_order reads is) in
    (e.closed, sym same, e.gives, e.last_is)

pub round_broken : (told : Option Standing) (area : Area) (place : ℕ) (old new : Kept) (fault : ScanFault) → GivesInOrder told area place (Err fault) → GivesRound told area place old new (Err (fault_of_scan fault))
round_broken None area place old new fault in_order = tt
round_broken (Some s) area place old new (scans.NotALog at) in_order = λ records ending reads left last same is.
    broken records ending place left last is at (answer (area_of area s.reading) records ending place left last (Err (scans.NotALog at)) in_order reads is)
round_broken (Some s) area place old new scans.Disk in_order = λ records ending reads left last same is. tt
round_broken (Some s) area place old new scans.Memory in_order = λ records ending reads left last same is. tt
