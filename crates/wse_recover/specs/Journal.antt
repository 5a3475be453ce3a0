-- What reading the chosen journal gives.
use Rattle.std.specs.Prelude.{◌≡◌, ⊤, List, Option, Result, Ok, Err}
use Rattle.wse_disk.specs.Standing.{Standing}
use Rattle.wse_disk.specs.Told.{WhereTold}
use Rattle.wse_log.specs.Grammar.{JournalRecord, JournalEnd, ClosedAt, Reads}
use Rattle.wse_txn.specs.Replay.{Replayed, Leaves, NoStoreAt, Gives}
use Rattle.wse_txn.specs.Stands.{journal_of}
use Rattle.wse_recover.specs.Unsettled.{IsLast}
use Rattle.wse_recover.specs.Held.{held}
use Rattle.wse_recover.specs.declared.fault.ReplayFault.{ReplayFault}
use Rattle.wse_recover.specs.declared.fault.ReplayFault.TheVariants as faults
use Rattle.wse_recover.specs.declared.read.Journal.{Journal}

-- The records end well at the gate, and leave what is held; or they are no store's, and where.
abbrev pub IsJournalRead : List JournalRecord → JournalEnd → Result Journal ReplayFault → Type 0
IsJournalRead records ending (Ok journal) =
    (ending ≡ ClosedAt journal.gate)
    × ((left : Replayed) × (left.kept ≡ held journal.stacks journal.versions) × Gives records ending (Leaves left) × IsLast records left journal.last)
IsJournalRead records ending (Err (faults.NotAStore at)) = Gives records ending (NoStoreAt at)
IsJournalRead records ending (Err faults.Disk) = ⊤
IsJournalRead records ending (Err faults.Memory) = ⊤

abbrev pub GivesJournal : Option Standing → Result Journal ReplayFault → Type 0
GivesJournal told result =
    WhereTold told (λ s. (records : List JournalRecord) (ending : JournalEnd) → Reads (journal_of s.reading) records ending → IsJournalRead records ending result)
