-- Round by round.
use Rattle.std.proofs.Common.{ℕ, Option, Some, None, Ok, Err, sym}
use Rattle.wse_disk.specs.declared.area.Area.{Area}
use Rattle.wse_disk.specs.Standing.{Standing}
use Rattle.wse_element.specs.State.{Kept}
use Rattle.wse_txn.specs.Replay.{replayed}
use Rattle.wse_recover.specs.declared.unsettled.Unsettled.{Unsettled}
use Rattle.wse_recover.specs.declared.fault.ReplayFault.{ReplayFault}
use Rattle.wse_recover.specs.declared.fault.ReplayFault.TheVariants as faults
use Rattle.wse_recover.specs.declared.fault.Round.TheVariants.{Entered, Ended}
use Rattle.wse_recover.specs.Round.{GivesRound}
use Rattle.wse_recover.specs.Loop.{GoesTo, GivesEnd}

module _ (area : Area) (place : ℕ) (old : Kept) (at : ℕ) (last : Option Unsettled) (now new : Kept) where
  pub goes_more : (told : Option Standing) (kept : Option Unsettled) (next : ℕ) → GivesRound told area at now new (Ok (Entered kept next)) → GoesTo told area place old at now last → GoesTo told area place old next new kept
  goes_more None kept next gives goes = tt
  goes_more (Some s) kept next gives goes = λ begun records ending reads.
      let so = goes begun records ending reads in
      let r = gives records ending reads so.0 last so.1 so.2 in
      (replayed so.0.kept r.0, sym r.1, r.2)

  pub goes_end : (told : Option Standing) (gate : ℕ) → GivesRound told area at now new (Ok (Ended gate)) → GoesTo told area place old at now last → GivesEnd told area place old new (Ok (record { gate = gate; last = last }))
  goes_end None gate gives goes = tt
  goes_end (Some s) gate gives goes = λ begun records ending reads.
      let so = goes begun records ending reads in
      let r = gives records ending reads so.0 last so.1 so.2 in
      (r.0, (so.0, sym r.1, r.2, r.3))

  pub goes_wrong : (told : Option Standing) (fault : ReplayFault) → GivesRound told area at now new (Err fault) → GoesTo told area place old at now last → GivesEnd told area place old new (Err fault)
  goes_wrong None fault gives goes = tt
  goes_wrong (Some s) (faults.NotAStore wrong) gives goes = λ begun records ending reads.
      let so = goes begun records ending reads in gives records ending reads so.0 last so.1 so.2
  goes_wrong (Some s) faults.Disk gives goes = λ begun records ending reads. tt
  goes_wrong (Some s) faults.Memory gives goes = λ begun records ending reads. tt

pub goes_start : (told : Option Standing) (area : Area) (place : ℕ) (old : Kept) → GoesTo told area place old place old None
goes_start None area place old = tt
goes_start (Some s) area place old = λ begun. begun
