-- What is written of a journal.
use Rattle.std.specs.Prelude.{ℕ, ◌+◌, List, [], ◌∷◌, ◌++◌, length}
use Rattle.wse_log.specs.Grammar.{JournalRecord, header, framed, behind_gate, settled_byte}

-- A record that isn't settled, as it is written.
abbrev pub unsettled : List ℕ → JournalRecord
unsettled body = record { body = body; mark = 0 }

abbrev pub settled : List ℕ → JournalRecord
settled body = record { body = body; mark = settled_byte }

-- What is written behind the closed gate: the length, the body, a mark that isn't settled, a closed gate.
abbrev pub staging : List ℕ → List ℕ
staging body = behind_gate (unsettled body) ++ 0 ∷ []

-- The gate behind a record that stands behind the gate at that place.
abbrev pub next_gate : ℕ → List ℕ → ℕ
next_gate gate body = gate + length body + 6

-- What is written of a new journal: the header, its one record, settled, behind an open gate, and a closed gate.
abbrev pub fresh_journal : List ℕ → List ℕ
fresh_journal body = header ++ (framed (settled body) ++ 0 ∷ [])
