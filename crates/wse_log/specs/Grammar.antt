-- The bytes of a journal: a header, and behind it one record after the other, each behind an open gate, up to a closed
-- gate. This project's own format.
use Rattle.std.specs.Prelude.{◌≡◌, ◌≢◌, ℕ, ◌+◌, ◌-◌, ◌^◌, ◌<◌, List, [], ◌∷◌, ◌++◌, length, take, slice_get, All}
use Rattle.std.specs.List.{flat_map}
use Rattle.std.specs.Int.{w32, to_be_bytes}

-- `WSELOG01`.
abbrev pub header : List ℕ
header = 0x57 ∷ 0x53 ∷ 0x45 ∷ 0x4c ∷ 0x4f ∷ 0x47 ∷ 0x30 ∷ 0x31 ∷ []

-- A gate is open only as this byte.
abbrev pub open_gate : ℕ
open_gate = 0xa5

-- A record is settled only with this byte behind its body.
abbrev pub settled_byte : ℕ
settled_byte = 0x5a

-- A record: its body, and the byte behind the body.
pub record JournalRecord : Type 0 where
  pub body : List ℕ
  pub mark : ℕ

abbrev pub IsSettled : JournalRecord → Type 0
IsSettled r = r.mark ≡ settled_byte

-- The length of the body has its four bytes.
abbrev pub HasShortBody : JournalRecord → Type 0
HasShortBody r = length r.body < 2 ^ 32

-- What stands behind a gate: the length of the body in four bytes, big-endian, the body, and its mark.
abbrev pub behind_gate : JournalRecord → List ℕ
behind_gate r = to_be_bytes w32 (length r.body) ++ (r.body ++ r.mark ∷ [])

-- A record behind its open gate.
abbrev pub framed : JournalRecord → List ℕ
framed r = open_gate ∷ behind_gate r

-- The header and these records, up to the gate behind them.
unfoldable pub front : List JournalRecord → List ℕ
front records = header ++ flat_map framed records

-- No body is too long. The first record is settled, and so is each that another one follows.
pub record AreInOrder (records : List JournalRecord) : Type 0 where
  pub short : All HasShortBody records
  pub first : All IsSettled (take 1 records)
  pub followed : All IsSettled (take (length records - 1) records)

-- Behind these records, of which there is at least one, a closed gate stands.
pub record EndsClosed (area : List ℕ) (records : List JournalRecord) (gate : ℕ) : Type 0 where
  pub some : records ≢ []
  pub byte : ℕ
  pub rest : List ℕ
  pub closed : byte ≢ open_gate
  pub spelled : area ≡ front records ++ byte ∷ rest
  pub place : gate ≡ length (front records)

-- The area is a journal: it has these records, and then a closed gate. What stands behind that means nothing.
pub record IsJournal (area : List ℕ) (records : List JournalRecord) (gate : ℕ) : Type 0 where
  pub order : AreInOrder records
  pub ends : EndsClosed area records gate

-- What the first records of a journal take up: nothing where there is none, and else all up to the gate behind them.
abbrev pub stretch : List JournalRecord → List ℕ
stretch [] = []
stretch (first ∷ others) = front (first ∷ others)

-- The area begins with these records. Nothing is said of which are settled.
pub record BeginsWith (area : List ℕ) (records : List JournalRecord) : Type 0 where
  pub short : All HasShortBody records
  pub rest : List ℕ
  pub spelled : area ≡ stretch records ++ rest

-- The last record, where there is one, is settled.
abbrev pub EndSettled : List JournalRecord → Type 0
EndSettled records = (others : List JournalRecord) (last : JournalRecord) → records ≡ others ++ last ∷ [] → IsSettled last

-- At this place the area differs from the header, or ends.
pub record FailsHeader (area : List ℕ) (place : ℕ) : Type 0 where
  pub within : place < length header
  pub same : take place area ≡ take place header
  pub differs : slice_get area place ≢ slice_get header place

-- These bytes aren't a whole length, body and mark, whatever follows.
abbrev pub BeginWithNoRecord : List ℕ → Type 0
BeginWithNoRecord bytes = (r : JournalRecord) (more : List ℕ) → HasShortBody r → bytes ≢ behind_gate r ++ more

-- The place where an area is no journal, behind these records with which it begins.
pub data BreaksAt (area : List ℕ) (records : List JournalRecord) (place : ℕ) : Type 0 where
  -- The first eight bytes aren't the header.
  NoHeader : records ≡ [] → FailsHeader area place → BreaksAt area records place
  -- A gate is missing.
  NoGate : area ≡ front records → place ≡ length area → BreaksAt area records place
  -- The first gate is closed.
  NeverOpened : (gate : ℕ) (rest : List ℕ) → records ≡ [] → area ≡ header ++ gate ∷ rest → gate ≢ open_gate → place ≡ length header → BreaksAt area records place
  -- Behind an open gate the length, the body or the settled byte isn't whole.
  NotWhole : (rest : List ℕ) → EndSettled records → area ≡ front records ++ open_gate ∷ rest → BeginWithNoRecord rest → place ≡ length (front records) → BreaksAt area records place
  -- The first record isn't settled.
  FirstUnsettled : (r : JournalRecord) (rest : List ℕ) → records ≡ [] → HasShortBody r → area ≡ front (r ∷ []) ++ rest → r.mark ≢ settled_byte → place + 1 ≡ length (front (r ∷ [])) → BreaksAt area records place
  -- A record isn't settled, and an open gate follows it.
  Unsettled : (others : List JournalRecord) (last : JournalRecord) (rest : List ℕ) → records ≡ others ++ last ∷ [] → area ≡ front records ++ open_gate ∷ rest → last.mark ≢ settled_byte → place + 1 ≡ length (front records) → BreaksAt area records place

-- How the records of an area end: with a closed gate, or where the area is no journal.
pub data JournalEnd : Type 0 where
  ClosedAt : (gate : ℕ) → JournalEnd
  BrokenAt : (place : ℕ) → JournalEnd

-- The area has these records, and then ends so.
abbrev pub Reads : List ℕ → List JournalRecord → JournalEnd → Type 0
Reads area records (ClosedAt gate) = IsJournal area records gate
Reads area records (BrokenAt place) = AreInOrder records × BeginsWith area records × BreaksAt area records place
