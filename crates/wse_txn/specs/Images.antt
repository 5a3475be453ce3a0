-- What a crash may leave while one record is written.
use Rattle.std.specs.Prelude.{◌≡◌, ◌⊎◌, ℕ, false, List, [], ◌∷◌, ◌++◌}
use Rattle.wse_disk.specs.declared.area.Area.{Area}
use Rattle.wse_disk.specs.Reading.{Reading, area_of, is_same_area}
use Rattle.wse_log.specs.Grammar.{JournalRecord, IsJournal}
use Rattle.wse_log.specs.Writing.{settled, next_gate}
use Rattle.wse_txn.specs.Journal.{IsSettledJournal, IsUnsettledJournal}

-- The files and the other areas are the old ones.
pub record DiffersInArea (area : Area) (old new : Reading) : Type 0 where
  pub files : new.files ≡ old.files
  pub others : (b : Area) → is_same_area b area ≡ false → area_of b new ≡ area_of b old

-- While a record is written: the journal has the old records, or these and the new one, which isn't settled.
pub record IsSealing (area : Area) (records : List JournalRecord) (gate : ℕ) (body : List ℕ) (old image : Reading) : Type 0 where
  pub only : DiffersInArea area old image
  pub journal : IsSettledJournal (area_of area image) records gate ⊎ IsUnsettledJournal (area_of area image) records body (next_gate gate body)

-- The record is written, and isn't settled.
pub record IsSealed (area : Area) (records : List JournalRecord) (gate : ℕ) (body : List ℕ) (old new : Reading) : Type 0 where
  pub only : DiffersInArea area old new
  pub journal : IsUnsettledJournal (area_of area new) records body (next_gate gate body)

-- While a record is settled: it is settled or not.
pub record IsClosing (area : Area) (records : List JournalRecord) (gate : ℕ) (body : List ℕ) (old image : Reading) : Type 0 where
  pub only : DiffersInArea area old image
  pub mark : ℕ
  pub journal : IsJournal (area_of area image) (records ++ record { body = body; mark = mark } ∷ []) gate

-- The record is settled.
pub record IsClosed (area : Area) (records : List JournalRecord) (gate : ℕ) (body : List ℕ) (old new : Reading) : Type 0 where
  pub only : DiffersInArea area old new
  pub journal : IsSettledJournal (area_of area new) (records ++ settled body ∷ []) gate
