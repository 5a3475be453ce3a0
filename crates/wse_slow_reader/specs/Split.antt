-- The records of an area as a list. This project's own format.
use Rattle.std.specs.Prelude.{◌≡◌, ⊤, ℕ, ◌+◌, ◌≤◌, List, [], ◌∷◌, ◌++◌, length, sum_by}
use Rattle.wse_log.specs.Grammar.{JournalRecord, HasShortBody, IsSettled, EndSettled, BeginsWith, EndsClosed, BreaksAt, JournalEnd, ClosedAt, BrokenAt}
use Rattle.wse_slow_reader.specs.declared.piece.Ending.{Ending}
use Rattle.wse_slow_reader.specs.declared.piece.Ending.TheVariants.{Closed, Broken}
use Rattle.wse_slow_reader.specs.declared.piece.Piece.{Piece}
use Rattle.wse_slow_reader.specs.declared.piece.Piece.TheVariants.{Holds, Ends}

abbrev pub end_of : Ending → JournalEnd
end_of (Closed gate) = ClosedAt gate
end_of (Broken at) = BrokenAt at

-- What stands behind these records, of which the last is settled where another one follows: that record, a closed gate, or
-- what makes the area no journal.
abbrev pub IsEndBehind : List ℕ → List JournalRecord → Ending → Type 0
IsEndBehind area before (Closed gate) = EndsClosed area before gate
IsEndBehind area before (Broken at) = BreaksAt area before at

abbrev pub IsPieceBehind : List ℕ → List JournalRecord → Piece → Type 0
IsPieceBehind area before (Holds r) = BeginsWith area (before ++ r ∷ []) × HasShortBody r × EndSettled before × (before ≡ [] → IsSettled r)
IsPieceBehind area before (Ends ending) = IsEndBehind area before ending

-- A record behind the gate ends within the area.
abbrev pub HasRoom : List ℕ → (gate : ℕ) → Piece → Type 0
HasRoom area gate (Holds r) = gate + 6 + length r.body ≤ length area
HasRoom area gate (Ends ending) = ⊤

-- The place of the end.
abbrev pub place_of : Ending → ℕ
place_of (Closed gate) = gate
place_of (Broken at) = at

-- How many bytes the records take behind the header.
abbrev pub length_of : List JournalRecord → ℕ
length_of records = sum_by (λ r. 6 + length r.body) records
