-- What the reads of a disk that tells find, and of which piece.
use Rattle.std.proofs.Common.{◌≡◌, ◌≢◌, ◌⊎◌, inl, inr, ℕ, ◌+◌, ◌-◌, ◌<◌, ◌≤◌, List, [], ◌∷◌, ◌++◌, length, take, drop, get_or, refl, sym, ◌∙◌, ap, subst, arith, append_assoc, length-append, length-drop, true, false}
use Rattle.std.specs.Prelude.{Option, Some, None, Result, Ok, Err, slice_range, IfNone, IfSome}
use Rattle.std.specs.Int.{w32, to_be_bytes, from_be_bytes}
use Rattle.std.proofs.lemmas.Bool.{eqb-true, eqb-false}
use Rattle.std.proofs.lemmas.Nat.{from_be_bytes-to_be_bytes_4}
use Rattle.std.proofs.lemmas.List.{take_all, take-take, take-append-drop, drop-drop, drop_more}
use Rattle.wse_disk.specs.declared.area.Area.{Area}
use Rattle.wse_disk.specs.Reading.{area_of}
use Rattle.wse_disk.specs.Standing.{Standing}
use Rattle.wse_disk.specs.Calls.{ReadsLength, ReadsPart}
use Rattle.wse_log.specs.declared.step.Step.{Step}
use Rattle.wse_log.specs.declared.step.Step.TheVariants.{End}
use Rattle.wse_log.specs.declared.step.ScanFault.{ScanFault}
use Rattle.wse_log.specs.declared.step.ScanFault.TheVariants.{NotALog, Disk, Memory}
use Rattle.wse_log.specs.declared.record.Found.{Found}
use Rattle.wse_log.specs.Grammar.{JournalRecord, HasShortBody, header, open_gate, settled_byte, behind_gate, front, stretch, BeginsWith, BreaksAt, NoHeader, FailsHeader, BeginWithNoRecord}
use Rattle.wse_log.specs.Reads.{ReadsByte, ReadsNumber}
use Rattle.wse_log.specs.Found.{record_of, FindsHeader, ReadsHeader, ReadsGate, ReadsMark, ReadsRecord}
use Rattle.wse_log.specs.Scan.{entry_of, IsPieceBehind, GivesPiece}
use Rattle.wse_log.proofs.Fronts.{front-nil, stretch-some}
use Rattle.wse_log.proofs.Places.{none_at_zero, some_later}
use Rattle.wse_log.proofs.Once.{read_in_front}
use Rattle.wse_log.proofs.Pieces.{none_last, first_missing, first_closed, first_cut, first_unsettled, first_holds, later_missing, later_closed, later_unsettled, later_cut, later_holds, end_settled}

-- The front of an area, or all of it where it is shorter than the header, fails the header where the area does.
front_fails : (bytes : List ℕ) (count place : ℕ) → ((length bytes < 8) × (count ≡ length bytes)) ⊎ ((8 ≤ length bytes) × (count ≡ 8)) → FailsHeader (take count bytes) place → FailsHeader bytes place
front_fails bytes count place (inl short) fails = subst (λ (l : List ℕ). FailsHeader l place) (take_all count bytes (omega (arith, short.1))) fails
front_fails bytes count place (inr long) fails =
    let within : place < count = omega (arith, fails.within, long.1) in
    record {
      within = fails.within;
      same = sym (take-take place count bytes (omega (arith, within))) ∙ fails.same;
      differs = λ e. fails.differs (read_in_front count place bytes within ∙ e);
    }

front_finds : (bytes part : List ℕ) (count : ℕ) (found : Option ℕ) → ((length bytes < 8) × (count ≡ length bytes)) ⊎ ((8 ≤ length bytes) × (count ≡ 8)) → part ≡ take count bytes → IfNone found (part ≡ header) → IfSome found (FailsHeader part) → FindsHeader bytes found
front_finds bytes part count None sizes is none some = (drop count bytes, sym (take-append-drop count bytes) ∙ ap (λ (l : List ℕ). l ++ drop count bytes) (sym is ∙ none))
front_finds bytes part count (Some place) sizes is none some = front_fails bytes count place sizes (subst (λ (l : List ℕ). FailsHeader l place) is some)

pub finds_header : (told : Option Standing) (area : Area) (len count size : ℕ) (part : List ℕ) (found : Option ℕ) → ReadsLength told area len → ((len < 8) × (count ≡ len)) ⊎ ((8 ≤ len) × (count ≡ 8)) → size ≡ count → ReadsPart told area 0 size part → IfNone found (part ≡ header) → IfSome found (FailsHeader part) → ReadsHeader told area found
finds_header None area len count size part found is sizes same reads none some = tt
finds_header (Some s) area len count size part found is sizes same reads none some =
    let bytes = area_of area s.reading in
    let whole : 0 + size - 0 ≡ count = omega (arith, same) in
    front_finds bytes part count found (sized sizes) (reads ∙ ap (λ (n : ℕ). take n bytes) whole) none some
  where
    sized : ((len < 8) × (count ≡ len)) ⊎ ((8 ≤ len) × (count ≡ 8)) → ((length (area_of area s.reading) < 8) × (count ≡ length (area_of area s.reading))) ⊎ ((8 ≤ length (area_of area s.reading)) × (count ≡ 8))
    sized (inl short) = inl (omega (arith, is, short.0), omega (arith, is, short.1))
    sized (inr long) = inr (omega (arith, is, long.0), long.1)

-- What a record takes behind its gate.
length_behind : (r : JournalRecord) (more : List ℕ) → length (behind_gate r ++ more) ≡ 5 + length r.body + length more
length_behind r more = omega (arith, length-append (behind_gate r) more, length-append r.body (r.mark ∷ []))

pub too_short : (bytes : List ℕ) (gate : ℕ) → gate < length bytes → length bytes - gate - 1 < 4 → BeginWithNoRecord (drop (gate + 1) bytes)
too_short bytes gate within room r more short e = absurd (omega (arith, ap length e, length_behind r more, length-drop (gate + 1) bytes))

pub finds_too_short : (told : Option Standing) (area : Area) (len gate : ℕ) → ReadsLength told area len → gate < len → len - gate - 1 < 4 → ReadsRecord told area gate (Err (NotALog gate))
finds_too_short None area len gate is within room = tt
finds_too_short (Some s) area len gate is within room = (refl, too_short (area_of area s.reading) gate (omega (arith, is)) (omega (arith, is)))

-- The four bytes there are those of the number.
number_there : (bytes : List ℕ) (place n : ℕ) → to_be_bytes w32 n ≡ slice_range bytes place (place + 4) → take 4 (drop place bytes) ≡ to_be_bytes w32 n
number_there bytes place n is = let four : place + 4 - place ≡ 4 = omega arith in ap (λ (k : ℕ). take k (drop place bytes)) (sym four) ∙ sym is

pub no_room : (bytes : List ℕ) (gate n : ℕ) → gate < length bytes → n < 4294967296 → to_be_bytes w32 n ≡ slice_range bytes (gate + 1) (gate + 1 + 4) → length bytes - gate - 1 - 4 ≤ n → BeginWithNoRecord (drop (gate + 1) bytes)
no_room bytes gate n within fits is room r more short e =
    let same : length r.body ≡ n =
    sym (from_be_bytes-to_be_bytes_4 (length r.body) short)
    ∙ ap (from_be_bytes w32) (sym (ap (take 4) e) ∙ number_there bytes (gate + 1) n is)
    ∙ from_be_bytes-to_be_bytes_4 n fits in
    absurd (omega (arith, same, ap length e, length_behind r more, length-drop (gate + 1) bytes))

pub finds_no_room : (told : Option Standing) (area : Area) (len gate n : ℕ) → ReadsLength told area len → gate < len → n < 4294967296 → ReadsNumber told area (gate + 1) n → len - gate - 1 - 4 ≤ n → ReadsRecord told area gate (Err (NotALog gate))
finds_no_room None area len gate n is within fits reads room = tt
finds_no_room (Some s) area len gate n is within fits reads room = (refl, no_room (area_of area s.reading) gate n (omega (arith, is)) fits reads (omega (arith, is)))

-- A part of a list, and what follows it.
part_there : (bytes part : List ℕ) (place n : ℕ) → part ≡ slice_range bytes place (place + n) → drop place bytes ≡ part ++ drop (place + n) bytes
part_there bytes part place n is =
    let count : place + n - place ≡ n = omega arith in
    sym (take-append-drop n (drop place bytes))
    ∙ ap (λ (l : List ℕ). l ++ drop n (drop place bytes)) (ap (λ (k : ℕ). take k (drop place bytes)) (sym count) ∙ sym is)
    ∙ ap (λ (l : List ℕ). part ++ l) (drop-drop n place bytes)

pub record_there : (bytes body : List ℕ) (gate n mark : ℕ) → to_be_bytes w32 n ≡ slice_range bytes (gate + 1) (gate + 1 + 4) → body ≡ slice_range bytes (gate + 5) (gate + 5 + n) → length body ≡ n → get_or bytes (gate + 5 + n) 0 ≡ mark → gate + 5 + n < length bytes → drop (gate + 1) bytes ≡ behind_gate (record { body = body; mark = mark }) ++ drop (gate + 5 + n + 1) bytes
record_there bytes body gate n mark number is count byte within =
    let r : JournalRecord = record { body = body; mark = mark } in
    let tail = drop (gate + 5 + n + 1) bytes in
    let five : gate + 1 + 4 ≡ gate + 5 = omega arith in
    let first : drop (gate + 1) bytes ≡ to_be_bytes w32 (length body) ++ drop (gate + 5) bytes =
    part_there bytes (to_be_bytes w32 n) (gate + 1) 4 number ∙ ap (λ (k : ℕ). to_be_bytes w32 n ++ drop k bytes) five ∙ ap (λ (k : ℕ). to_be_bytes w32 k ++ drop (gate + 5) bytes) (sym count) in
    let last : drop (gate + 5 + n) bytes ≡ mark ∷ tail = drop_more bytes (gate + 5 + n) 0 within ∙ ap (λ (b : ℕ). b ∷ tail) byte in
    first
    ∙ ap (λ (l : List ℕ). to_be_bytes w32 (length body) ++ l) (part_there bytes body (gate + 5) n is ∙ ap (λ (l : List ℕ). body ++ l) last ∙ sym (append_assoc body (mark ∷ []) tail))
    ∙ sym (append_assoc (to_be_bytes w32 (length body)) (body ++ mark ∷ []) tail)

pub finds_record : (told : Option Standing) (area : Area) (len gate n mark : ℕ) (body : List ℕ) → ReadsLength told area len → ReadsNumber told area (gate + 1) n → ReadsPart told area (gate + 5) n body → length body ≡ n → ReadsByte told area (gate + 5 + n) mark → gate + 5 + n < len → ReadsRecord told area gate (Ok (record { body = body; mark = mark }))
finds_record None area len gate n mark body is number part count byte within = tt
finds_record (Some s) area len gate n mark body is number part count byte within =
    let bytes = area_of area s.reading in
    (drop (gate + 5 + n + 1) bytes, record_there bytes body gate n mark number part count byte (omega (arith, is)))

-- A later piece.
module _ (bytes : List ℕ) (before : List JournalRecord) (begins : BeginsWith bytes before) (gate : ℕ) (later : 0 < gate) (at' : gate ≡ length (stretch before)) where
  some : before ≢ []
  some = some_later before (subst (λ (n : ℕ). 0 < n) at' later)

  is_front : length (front before) ≡ gate
  is_front = sym (at' ∙ ap length (stretch-some before some))

  missing_there : length bytes ≤ gate → BreaksAt bytes before gate
  missing_there = subst (λ (n : ℕ). length bytes ≤ n → BreaksAt bytes before n) is_front (later_missing bytes before begins some)

  closed_there : gate < length bytes → (get_or bytes gate 0 ≡ open_gate → ⊥) → IsPieceBehind bytes before (Ok (End gate))
  closed_there = subst (λ (n : ℕ). n < length bytes → (get_or bytes n 0 ≡ open_gate → ⊥) → IsPieceBehind bytes before (Ok (End n))) is_front (later_closed bytes before begins some)

  unsettled_there : gate < length bytes → get_or bytes gate 0 ≡ open_gate → (get_or bytes (gate - 1) 0 ≡ settled_byte → ⊥) → BreaksAt bytes before (gate - 1)
  unsettled_there = subst (λ (n : ℕ). n < length bytes → get_or bytes n 0 ≡ open_gate → (get_or bytes (n - 1) 0 ≡ settled_byte → ⊥) → BreaksAt bytes before (n - 1)) is_front (later_unsettled bytes before begins some)

  cut_there : gate < length bytes → get_or bytes gate 0 ≡ open_gate → get_or bytes (gate - 1) 0 ≡ settled_byte → BeginWithNoRecord (drop (gate + 1) bytes) → BreaksAt bytes before gate
  cut_there = subst (λ (n : ℕ). n < length bytes → get_or bytes n 0 ≡ open_gate → get_or bytes (n - 1) 0 ≡ settled_byte → BeginWithNoRecord (drop (n + 1) bytes) → BreaksAt bytes before n) is_front (later_cut bytes before begins some)

  entry_there : (r : JournalRecord) (more : List ℕ) → gate < length bytes → get_or bytes gate 0 ≡ open_gate → get_or bytes (gate - 1) 0 ≡ settled_byte → drop (gate + 1) bytes ≡ behind_gate r ++ more → HasShortBody r → IsPieceBehind bytes before (Ok (entry_of gate r.body r.mark))
  entry_there r more within same settled whole short =
      let P : ℕ → Type 0 = λ n. n < length bytes → get_or bytes n 0 ≡ open_gate → get_or bytes (n - 1) 0 ≡ settled_byte → drop (n + 1) bytes ≡ behind_gate r ++ more → IsPieceBehind bytes before (Ok (entry_of n r.body r.mark)) in
      let at_front : P (length (front before)) = λ inside opened mark behind. (r.mark, later_holds bytes before begins some r more inside opened behind short, end_settled bytes before begins some mark, (λ none. absurd (some none)), refl) in
      subst P is_front at_front within same settled whole

module _ (area : Area) (len gate : ℕ) (later : 0 < gate) where
  pub gives_missing : (told : Option Standing) (fault : ScanFault) → ReadsGate told area gate (Err fault) → GivesPiece told area gate (Err fault)
  gives_missing None fault reads = tt
  gives_missing (Some s) (NotALog place) reads = λ before begins at'.
      subst (BreaksAt (area_of area s.reading) before) (sym reads.0) (missing_there (area_of area s.reading) before begins gate later at' reads.1)
  gives_missing (Some s) Disk reads = λ before begins at'. tt
  gives_missing (Some s) Memory reads = λ before begins at'. tt

  pub gives_end : (told : Option Standing) → ReadsLength told area len → gate < len → ReadsGate told area gate (Ok false) → GivesPiece told area gate (Ok (End gate))
  gives_end None is within closed = tt
  gives_end (Some s) is within closed = λ before begins at'.
      closed_there (area_of area s.reading) before begins gate later at' (omega (arith, is)) (eqb-false (get_or (area_of area s.reading) gate 0) open_gate (sym closed))

  pub gives_unsettled : (told : Option Standing) (fault : ScanFault) → ReadsLength told area len → gate < len → ReadsGate told area gate (Ok true) → ReadsMark {T = Unit {0}} told area (gate - 1) (Err fault) → GivesPiece told area gate (Err fault)
  gives_unsettled None fault is within opened reads = tt
  gives_unsettled (Some s) (NotALog place) is within opened reads = λ before begins at'.
      subst (BreaksAt (area_of area s.reading) before) (sym reads.0) (unsettled_there (area_of area s.reading) before begins gate later at' (omega (arith, is)) (eqb-true (get_or (area_of area s.reading) gate 0) open_gate (sym opened)) reads.1)
  gives_unsettled (Some s) Disk is within opened reads = λ before begins at'. tt
  gives_unsettled (Some s) Memory is within opened reads = λ before begins at'. tt

  pub gives_cut : (told : Option Standing) (x : Unit {0}) (fault : ScanFault) → ReadsLength told area len → gate < len → ReadsGate told area gate (Ok true) → ReadsMark told area (gate - 1) (Ok x) → ReadsRecord told area gate (Err fault) → GivesPiece told area gate (Err fault)
  gives_cut None x fault is within opened settled reads = tt
  gives_cut (Some s) x (NotALog place) is within opened settled reads = λ before begins at'.
      subst (BreaksAt (area_of area s.reading) before) (sym reads.0) (cut_there (area_of area s.reading) before begins gate later at' (omega (arith, is)) (eqb-true (get_or (area_of area s.reading) gate 0) open_gate (sym opened)) settled reads.1)
  gives_cut (Some s) x Disk is within opened settled reads = λ before begins at'. tt
  gives_cut (Some s) x Memory is within opened settled reads = λ before begins at'. tt

  pub gives_entry : (told : Option Standing) (x : Unit {0}) (found : Found) → ReadsLength told area len → gate < len → ReadsGate told area gate (Ok true) → ReadsMark told area (gate - 1) (Ok x) → ReadsRecord told area gate (Ok found) → HasShortBody (record_of found) → GivesPiece told area gate (Ok (entry_of gate found.body found.mark))
  gives_entry None x found is within opened settled reads short = tt
  gives_entry (Some s) x found is within opened settled reads short = λ before begins at'.
      entry_there (area_of area s.reading) before begins gate later at' (record_of found) reads.0 (omega (arith, is)) (eqb-true (get_or (area_of area s.reading) gate 0) open_gate (sym opened)) settled reads.1 short

-- The first piece.
module _ (area : Area) (len : ℕ) where
  -- What holds behind no records holds of the first piece.
  at_first : (bytes : List ℕ) (result : Result Step ScanFault) → IsPieceBehind bytes [] result → (before : List JournalRecord) → BeginsWith bytes before → 0 ≡ length (stretch before) → IsPieceBehind bytes before result
  at_first bytes result is before begins at' = subst (λ (l : List JournalRecord). IsPieceBehind bytes l result) (sym (none_at_zero before at')) is

  pub gives_fault : (told : Option Standing) (place : ℕ) → ReadsHeader told area (Some place) → GivesPiece told area 0 (Err (NotALog place))
  gives_fault None place fails = tt
  gives_fault (Some s) place fails = at_first (area_of area s.reading) (Err (NotALog place)) (NoHeader refl fails)

  pub gives_missing_first : (told : Option Standing) (fault : ScanFault) → ReadsHeader told area None → ReadsGate told area 8 (Err fault) → GivesPiece told area 0 (Err fault)
  gives_missing_first None fault starts reads = tt
  gives_missing_first (Some s) (NotALog place) starts reads =
      at_first (area_of area s.reading) (Err (NotALog place)) (subst (BreaksAt (area_of area s.reading) []) (sym reads.0) (first_missing (area_of area s.reading) starts.0 starts.1 reads.1))
  gives_missing_first (Some s) Disk starts reads = λ before begins at'. tt
  gives_missing_first (Some s) Memory starts reads = λ before begins at'. tt

  pub gives_never_opened : (told : Option Standing) → ReadsHeader told area None → ReadsLength told area len → 8 < len → ReadsGate told area 8 (Ok false) → GivesPiece told area 0 (Err (NotALog 8))
  gives_never_opened None starts is within closed = tt
  gives_never_opened (Some s) starts is within closed =
      let bytes = area_of area s.reading in
      at_first bytes (Err (NotALog 8)) (first_closed bytes starts.0 starts.1 (omega (arith, is)) (eqb-false (get_or bytes 8 0) open_gate (sym closed)))

  pub gives_first_cut : (told : Option Standing) (fault : ScanFault) → ReadsHeader told area None → ReadsLength told area len → 8 < len → ReadsGate told area 8 (Ok true) → ReadsRecord told area 8 (Err fault) → GivesPiece told area 0 (Err fault)
  gives_first_cut None fault starts is within opened reads = tt
  gives_first_cut (Some s) (NotALog place) starts is within opened reads =
      let bytes = area_of area s.reading in
      at_first bytes (Err (NotALog place)) (subst (BreaksAt bytes []) (sym reads.0) (first_cut bytes starts.0 starts.1 (omega (arith, is)) (eqb-true (get_or bytes 8 0) open_gate (sym opened)) reads.1))
  gives_first_cut (Some s) Disk starts is within opened reads = λ before begins at'. tt
  gives_first_cut (Some s) Memory starts is within opened reads = λ before begins at'. tt

  pub gives_first_unsettled : (told : Option Standing) (found : Found) (place : ℕ) → ReadsHeader told area None → ReadsLength told area len → 8 < len → ReadsGate told area 8 (Ok true) → ReadsRecord told area 8 (Ok found) → HasShortBody (record_of found) → (found.mark ≡ settled_byte → ⊥) → place ≡ 13 + length found.body → GivesPiece told area 0 (Err (NotALog place))
  gives_first_unsettled None found place starts is within opened reads short unsettled at' = tt
  gives_first_unsettled (Some s) found place starts is within opened reads short unsettled at' =
      let bytes = area_of area s.reading in
      let broken = first_unsettled bytes starts.0 starts.1 (record_of found) reads.0 (omega (arith, is)) (eqb-true (get_or bytes 8 0) open_gate (sym opened)) reads.1 short unsettled in
      at_first bytes (Err (NotALog place)) (subst (BreaksAt bytes []) (sym at') broken)

  pub gives_first : (told : Option Standing) (found : Found) → ReadsHeader told area None → ReadsLength told area len → 8 < len → ReadsGate told area 8 (Ok true) → ReadsRecord told area 8 (Ok found) → HasShortBody (record_of found) → found.mark ≡ settled_byte → GivesPiece told area 0 (Ok (entry_of 8 found.body found.mark))
  gives_first None found starts is within opened reads short settled = tt
  gives_first (Some s) found starts is within opened reads short settled =
      let bytes = area_of area s.reading in
      let held = first_holds bytes starts.0 starts.1 (record_of found) reads.0 (omega (arith, is)) (eqb-true (get_or bytes 8 0) open_gate (sym opened)) reads.1 short in
      let same : entry_of 8 found.body found.mark ≡ entry_of (length (front [])) found.body found.mark = ap (λ (n : ℕ). entry_of n found.body found.mark) (sym (ap length front-nil)) in
      at_first bytes (Ok (entry_of 8 found.body found.mark)) (found.mark, held, none_last bytes starts.0 starts.1, (λ none. settled), same)
