-- The journal of a store while one record is written into it.
use Rattle.std.specs.Prelude.{◌≢◌, ℕ, ◌+◌, ◌≤◌, List, [], ◌∷◌, ◌++◌, length, Option}
use Rattle.wse_disk.specs.declared.area.Area.{Area}
use Rattle.wse_disk.specs.Reading.{area_of}
use Rattle.wse_disk.specs.Standing.{Standing}
use Rattle.wse_disk.specs.Told.{WhereTold}
use Rattle.wse_log.specs.Grammar.{JournalRecord, EndSettled, IsJournal, settled_byte}

-- The area is a journal of these records, all of them settled, and its closed gate stands there.
pub record IsSettledJournal (area : List ℕ) (records : List JournalRecord) (gate : ℕ) : Type 0 where
  pub journal : IsJournal area records gate
  pub settled : EndSettled records

-- The area is a journal of these records and one more behind them, which has this body and isn't settled, whatever stands in
-- the place of its mark.
pub record IsUnsettledJournal (area : List ℕ) (records : List JournalRecord) (body : List ℕ) (gate : ℕ) : Type 0 where
  pub some : records ≢ []
  pub mark : ℕ
  pub unsettled : mark ≢ settled_byte
  pub journal : IsJournal area (records ++ record { body = body; mark = mark } ∷ []) gate

-- The area is a journal of settled records.
abbrev pub HasSettledJournal : Option Standing → Area → ℕ → Type 0
HasSettledJournal told area gate = WhereTold told (λ s. (records : List JournalRecord) × IsSettledJournal (area_of area s.reading) records gate)

-- The area is a journal whose last record has this body and isn't settled.
abbrev pub HasUnsettledJournal : Option Standing → Area → List ℕ → ℕ → Type 0
HasUnsettledJournal told area body gate = WhereTold told (λ s. (records : List JournalRecord) × IsUnsettledJournal (area_of area s.reading) records body gate)

-- There is a byte of the area at this place.
abbrev pub HasGate : Option Standing → Area → ℕ → Type 0
HasGate told area gate = WhereTold told (λ s. gate + 1 ≤ length (area_of area s.reading))
