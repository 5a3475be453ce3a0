-- What a scan of one piece answers.
use Rattle.std.specs.Prelude.{◌≡◌, ⊤, ℕ, ◌+◌, ◌^◌, ◌<◌, ◌==◌, List, [], ◌∷◌, ◌++◌, length, Option, Result, Ok, Err, if◌then◌else◌}
use Rattle.wse_disk.specs.declared.area.Area.{Area}
use Rattle.wse_disk.specs.Reading.{area_of}
use Rattle.wse_disk.specs.Standing.{Standing}
use Rattle.wse_disk.specs.Told.{WhereTold}
use Rattle.wse_log.specs.declared.step.Step.{Step}
use Rattle.wse_log.specs.declared.step.Step.TheVariants.{Entry, End}
use Rattle.wse_log.specs.declared.step.ScanFault.{ScanFault}
use Rattle.wse_log.specs.declared.step.ScanFault.TheVariants.{NotALog, Disk, Memory}
use Rattle.wse_log.specs.Grammar.{JournalRecord, header, settled_byte, front, stretch, EndSettled, BeginsWith, EndsClosed, BreaksAt, JournalEnd, ClosedAt, BrokenAt, Reads}

-- The record behind the gate at that place.
abbrev pub entry_of : ℕ → List ℕ → ℕ → Step
entry_of gate body mark = Entry body gate (mark == settled_byte) (gate + 6 + length body)

-- The area begins with some records, and the place is that of the piece behind them: 0 behind none, else that of a gate.
abbrev pub IsPieceOf : List ℕ → ℕ → Type 0
IsPieceOf area place = (before : List JournalRecord) × BeginsWith area before × (place ≡ length (stretch before))

abbrev pub IsAtPiece : Option Standing → Area → ℕ → Type 0
IsAtPiece told area place = WhereTold told (λ s. IsPieceOf (area_of area s.reading) place)

-- The answer says what stands behind these records: one record more, where the one in front of it is settled, or itself if
-- it is the first; a closed gate; or that the area is no journal, and where.
abbrev pub IsPieceBehind : List ℕ → List JournalRecord → Result Step ScanFault → Type 0
IsPieceBehind area before (Ok (Entry body gate settled next)) =
    (mark : ℕ) × BeginsWith area (before ++ record { body = body; mark = mark } ∷ []) × EndSettled before × (before ≡ [] → mark ≡ settled_byte)
    × (Entry body gate settled next ≡ entry_of (length (front before)) body mark)
IsPieceBehind area before (Ok (End gate)) = EndsClosed area before gate
IsPieceBehind area before (Err (NotALog place)) = BreaksAt area before place
IsPieceBehind area before (Err Disk) = ⊤
IsPieceBehind area before (Err Memory) = ⊤

abbrev pub GivesPiece : Option Standing → Area → ℕ → Result Step ScanFault → Type 0
GivesPiece told area place result = WhereTold told (λ s. (before : List JournalRecord) → BeginsWith (area_of area s.reading) before → place ≡ length (stretch before) → IsPieceBehind (area_of area s.reading) before result)

-- The answer behind the first records of an area that has these other records and then ends so.
abbrev pub answer_behind : List JournalRecord → List JournalRecord → JournalEnd → Result Step ScanFault
answer_behind before (r ∷ others) ending = Ok (entry_of (length (front before)) r.body r.mark)
answer_behind before [] (ClosedAt gate) = Ok (End gate)
answer_behind before [] (BrokenAt place) = Err (NotALog place)

-- The answer is this one, unless the disk failed or memory was wanting.
abbrev pub IsUnlessFault : Result Step ScanFault → Result Step ScanFault → Type 0
IsUnlessFault (Ok step) expected = Ok step ≡ expected
IsUnlessFault (Err (NotALog place)) expected = Err (NotALog place) ≡ expected
IsUnlessFault (Err Disk) expected = ⊤
IsUnlessFault (Err Memory) expected = ⊤

abbrev pub GivesInOrder : Option Standing → Area → ℕ → Result Step ScanFault → Type 0
GivesInOrder told area place result = WhereTold told (λ s. (before after : List JournalRecord) (ending : JournalEnd) → Reads (area_of area s.reading) (before ++ after) ending → place ≡ length (stretch before) → IsUnlessFault result (answer_behind before after ending))

-- Where the gate of the piece at that place stands.
abbrev pub gate_of : ℕ → ℕ
gate_of place = if place == 0 then length header else place

-- The step's places, all below 2^63.
abbrev pub LiesAt : ℕ → Step → Type 0
LiesAt place (Entry body gate settled next) = (gate ≡ gate_of place) × (next ≡ gate + 6 + length body) × (next < 2 ^ 63)
LiesAt place (End gate) = (gate ≡ place) × (gate < 2 ^ 63)

-- Where the piece behind the step stands: it can be scanned next. An end is scanned again.
abbrev pub place_after : Step → ℕ
place_after (Entry body gate settled next) = next
place_after (End gate) = gate

abbrev pub CanScanOn : Option Standing → Area → Step → Type 0
CanScanOn told area step = IsAtPiece told area (place_after step)
