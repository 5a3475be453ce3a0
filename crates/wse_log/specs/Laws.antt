-- What holds of the definitions.
use Rattle.std.specs.Prelude.{◌≡◌, ℕ, ◌^◌, ◌<◌, List, [], ◌∷◌, length}
use Rattle.wse_log.specs.Grammar.{JournalRecord, JournalEnd, Reads, IsJournal}
use Rattle.wse_log.specs.Writing.{settled, fresh_journal, next_gate}

-- Each list of bytes has some records, and then an end.
abbrev pub EachAreaReads : Type 0
EachAreaReads = (area : List ℕ) → (records : List JournalRecord) × (ending : JournalEnd) × Reads area records ending

-- There is one way to read an area.
abbrev pub AreasReadOneWay : Type 0
AreasReadOneWay = (area : List ℕ) (records others : List JournalRecord) (ending other : JournalEnd) → Reads area records ending → Reads area others other → (records ≡ others) × (ending ≡ other)

-- What is written of a new journal reads as its one record, and the closed gate behind it.
abbrev pub FreshJournalsRead : Type 0
FreshJournalsRead = (body : List ℕ) → length body < 2 ^ 32 → IsJournal (fresh_journal body) (settled body ∷ []) (next_gate 8 body)
