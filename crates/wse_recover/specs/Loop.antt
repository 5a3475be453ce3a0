-- Reading a journal to its end.
use Rattle.std.specs.Prelude.{None, ◌≡◌, ⊤, ℕ, List, Option, Result, Ok, Err}
use Rattle.wse_disk.specs.declared.area.Area.{Area}
use Rattle.wse_disk.specs.Reading.{area_of}
use Rattle.wse_disk.specs.Standing.{Standing}
use Rattle.wse_disk.specs.Told.{WhereTold}
use Rattle.wse_element.specs.State.{Kept}
use Rattle.wse_log.specs.Grammar.{JournalRecord, JournalEnd, ClosedAt, Reads}
use Rattle.wse_txn.specs.Replay.{Replayed, Leaves, NoStoreAt, Gives}
use Rattle.wse_recover.specs.declared.unsettled.Unsettled.{Unsettled}
use Rattle.wse_recover.specs.Unsettled.{IsLast}
use Rattle.wse_recover.specs.Replaying.{IsReplayed}
use Rattle.wse_recover.specs.declared.fault.ReplayFault.{ReplayFault}
use Rattle.wse_recover.specs.declared.fault.ReplayFault.TheVariants as faults
use Rattle.wse_recover.specs.declared.replay.Replay.{Replay}

-- However the area reads, its records up to this place were read, and leave what is held.
abbrev pub IsReplayedTo : List ℕ → (place : ℕ) → Kept → (last : Option Unsettled) → Type 0
IsReplayedTo area place kept last = (records : List JournalRecord) (ending : JournalEnd) → Reads area records ending
    → (left : Replayed) × (left.kept ≡ kept) × IsReplayed records ending place left last

-- The journal ends well, and leaves what is held; or it is no store's, and where.
abbrev pub IsEnd : List JournalRecord → JournalEnd → Kept → Result Replay ReplayFault → Type 0
IsEnd records ending new (Ok r) = (ending ≡ ClosedAt r.gate) × ((left : Replayed) × (left.kept ≡ new) × Gives records ending (Leaves left) × IsLast records left r.last)
IsEnd records ending new (Err (faults.NotAStore at)) = Gives records ending (NoStoreAt at)
IsEnd records ending new (Err faults.Disk) = ⊤
IsEnd records ending new (Err faults.Memory) = ⊤

abbrev pub GivesEnd : Option Standing → Area → (place : ℕ) → (old new : Kept) → Result Replay ReplayFault → Type 0
GivesEnd told area place old new result = WhereTold told (λ s. IsReplayedTo (area_of area s.reading) place old None
    → (records : List JournalRecord) (ending : JournalEnd) → Reads (area_of area s.reading) records ending → IsEnd records ending new result)

-- What was read up to the first place goes on to the second.
abbrev pub GoesTo : Option Standing → Area → (place : ℕ) → (old : Kept) → (at : ℕ) → (now : Kept) → (last : Option Unsettled) → Type 0
GoesTo told area place old at now last = WhereTold told (λ s. IsReplayedTo (area_of area s.reading) place old None → IsReplayedTo (area_of area s.reading) at now last)
