-- What the writes of one record ask and leave.
use Rattle.std.specs.Prelude.{◌≡◌, ℕ, ◌^◌, ◌<◌, List, length, Option}
use Rattle.wse_disk.specs.declared.area.Area.{Area}
use Rattle.wse_disk.specs.Reading.{area_of}
use Rattle.wse_disk.specs.Standing.{Standing}
use Rattle.wse_disk.specs.Calls.{Told}
use Rattle.wse_log.specs.Grammar.{JournalRecord}
use Rattle.wse_log.specs.Writing.{staging, next_gate}
use Rattle.wse_txn.specs.Journal.{IsUnsettledJournal}

-- These bytes are what is written of a record with this body.
pub record IsStagedFor (body staged : List ℕ) : Type 0 where
  pub spelled : staged ≡ staging body
  pub short : length body < 2 ^ 32

-- The record with this body stands in the journal, not settled, and the files are the old ones.
abbrev pub HasSealed : Area → ℕ → List ℕ → Option Standing → Option Standing → Type 0
HasSealed area gate body old new =
    Told (λ s t. ((records : List JournalRecord) × IsUnsettledJournal (area_of area t.reading) records body (next_gate gate body)) × (t.reading.files ≡ s.reading.files)) old new
