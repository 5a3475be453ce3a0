-- Each area reads in some way.
use Rattle.std.proofs.Common.{◌≡◌, ◌≢◌, ◌⊎◌, inl, inr, ℕ, zero, suc, ◌+◌, ◌-◌, ◌/◌, ◌<◌, ◌≤◌, List, [], ◌∷◌, ◌++◌, length, take, drop, get_or, refl, sym, ◌∙◌, ap, subst, arith, length-append, length-drop, take-append-drop}
use Rattle.std.specs.Prelude.{Some, None, slice_range}
use Rattle.std.specs.Int.{w32, to_be_bytes, from_be_bytes}
use Rattle.std.proofs.lemmas.Bool.{cases_eq, cases_lt}
use Rattle.std.proofs.lemmas.Nat.{be_bytes_4, mod_below}
use Rattle.std.proofs.lemmas.Option.{slice_get-get_or, slice_get_past}
use Rattle.std.proofs.lemmas.List.{take_more_same, length-take-le}
use Rattle.std.proofs.lemmas.List.Elements.{All-nil}
use Rattle.wse_log.specs.Grammar.{JournalRecord, HasShortBody, AreInOrder, header, open_gate, settled_byte, behind_gate, front, stretch, BeginsWith, FailsHeader, BeginWithNoRecord, BreaksAt, NoHeader, JournalEnd, ClosedAt, BrokenAt, Reads}
use Rattle.wse_log.proofs.Fronts.{stretch-push, length-front-push}
use Rattle.wse_log.proofs.Order.{order-nil, order-more}
use Rattle.wse_log.proofs.Pieces.{none_last, first_missing, first_closed, first_cut, first_unsettled, first_holds, later_missing, later_closed, later_unsettled, later_cut, later_holds, end_settled}
use Rattle.wse_log.proofs.Finds.{too_short, no_room, record_there}

abbrev HeaderOr : List ℕ → Type 0
HeaderOr area = ((place : ℕ) × FailsHeader area place) ⊎ ((tail : List ℕ) × (area ≡ header ++ tail))

-- The header is looked for from a place on.
header_from : (area : List ℕ) (left n : ℕ) → n + left ≡ 8 → take n area ≡ take n header → HeaderOr area
header_from area zero n all same =
    let eight : n ≡ 8 = omega (arith, all) in
    let whole : take 8 area ≡ header = subst (λ (k : ℕ). take k area ≡ take k header) eight same in
    inr (drop 8 area, sym (take-append-drop 8 area) ∙ ap (λ (l : List ℕ). l ++ drop 8 area) whole)
header_from area (suc left) n all same = elim (cases_lt n (length area)) [
  | inl within ↦ elim (cases_eq (get_or area n 0) (get_or header n 0)) [
    | inl is ↦ header_from area left (n + 1) (omega (arith, all)) (take_more_same area header n 0 within (omega (arith, all)) same is)
    | inr differs ↦ inl (
      n,
      record {
        within = omega (arith, all);
        same = same;
        differs = λ e. differs (same_some (get_or area n 0) (get_or header n 0) (sym (slice_get-get_or area n 0 within) ∙ e ∙ slice_get-get_or header n 0 (omega (arith, all))));
      },
    )
  ]
  | inr past ↦ inl (
    n,
    record {
      within = omega (arith, all);
      same = same;
      differs = λ e. none_some (get_or header n 0) (sym (slice_get_past area n past) ∙ e ∙ slice_get-get_or header n 0 (omega (arith, all)));
    },
  )
]
  where
    same_some : (x y : ℕ) → Some x ≡ Some y → x ≡ y
    same_some x y e = cc

    none_some : (x : ℕ) → None ≡ Some x → ⊥
    none_some x e = cc

header_or_fault : (area : List ℕ) → HeaderOr area
header_or_fault area = header_from area 8 0 refl refl

abbrev RecordOr : List ℕ → Type 0
RecordOr rest = BeginWithNoRecord rest ⊎ ((r : JournalRecord) × (more : List ℕ) × HasShortBody r × (rest ≡ behind_gate r ++ more))

-- Each byte is below 256, or one isn't.
abbrev AreBytes : List ℕ → Type 0
AreBytes bytes = (i : ℕ) → get_or bytes i 0 < 256

bytes_or_not : (bytes : List ℕ) → AreBytes bytes ⊎ ((i : ℕ) × (256 ≤ get_or bytes i 0))
bytes_or_not [] = inl (λ i. omega arith)
bytes_or_not (b ∷ bytes) = elim (cases_lt b 256) [
  | inl small ↦ elim (bytes_or_not bytes) [
    | inl others ↦ inl (each small others)
    | inr large ↦ inr (suc large.0, large.1)
  ]
  | inr large ↦ inr (zero, large)
]
  where
    each : b < 256 → AreBytes bytes → AreBytes (b ∷ bytes)
    each small others zero = small
    each small others (suc i) = others i

-- A number is spelled in bytes.
spelled_bytes : (n : ℕ) → AreBytes (to_be_bytes w32 n)
spelled_bytes n zero = mod_below (n / 16777216) 256 (omega arith)
spelled_bytes n (suc zero) = mod_below (n / 65536) 256 (omega arith)
spelled_bytes n (suc (suc zero)) = mod_below (n / 256) 256 (omega arith)
spelled_bytes n (suc (suc (suc zero))) = mod_below n 256 (omega arith)
spelled_bytes n (suc (suc (suc (suc i)))) = omega arith

record_or_none : (area : List ℕ) (gate : ℕ) → gate < length area → RecordOr (drop (gate + 1) area)
record_or_none area gate within = elim (cases_lt (length area - gate - 1) 4) [
  | inl short ↦ inl (too_short area gate within short)
  | inr long ↦ elim (bytes_or_not field) [
    | inl small ↦ elim (cases_lt n (length area - gate - 1 - 4)) [
      | inl room ↦
          let body = slice_range area (gate + 5) (gate + 5 + n) in
          let mark = get_or area (gate + 5 + n) 0 in
          let count : length body ≡ n = length_part (gate + 5) n (omega (arith, room)) in
          inr (record { body = body; mark = mark }, drop (gate + 5 + n + 1) area, omega (arith, count, fits small), record_there area body gate n mark (number long small) refl count refl (omega (arith, room)))
      | inr none ↦ inl (no_room area gate n within (fits small) (number long small) none)
    ]
    | inr large ↦ inl (λ r more short e. no_number large.0 large.1 (length r.body) (begins r more e))
  ]
]
  where
    field : List ℕ
    field = slice_range area (gate + 1) (gate + 1 + 4)

    n : ℕ
    n = from_be_bytes w32 field

    length_part : (place count : ℕ) → place + count ≤ length area → length (slice_range area place (place + count)) ≡ count
    length_part place count le = length-take-le (place + count - place) (drop place area) (omega (arith, length-drop place area)) ∙ (omega arith)

    four : 4 ≤ length area - gate - 1 → length field ≡ 4
    four long = length_part (gate + 1) 4 (omega (arith, long))

    number : 4 ≤ length area - gate - 1 → AreBytes field → to_be_bytes w32 n ≡ field
    number long small = be_bytes_4 field n (four long) small refl

    fits : AreBytes field → n < 4294967296
    fits small = omega (arith, small 0, small 1, small 2, small 3)

    -- The four bytes behind the gate spell the length of a body that stands there.
    begins : (r : JournalRecord) (more : List ℕ) → drop (gate + 1) area ≡ behind_gate r ++ more → field ≡ to_be_bytes w32 (length r.body)
    begins r more e = let count : gate + 1 + 4 - (gate + 1) ≡ 4 = omega arith in ap (λ (k : ℕ). take k (drop (gate + 1) area)) count ∙ ap (take 4) e

    no_number : (i : ℕ) → 256 ≤ get_or field i 0 → (count : ℕ) → field ≡ to_be_bytes w32 count → ⊥
    no_number i large count is = omega (arith, large, spelled_bytes count i, ap (λ (l : List ℕ). get_or l i 0) is)

-- What stands behind records in order: an ending, or one record more in order.
abbrev EndingOrMore : List ℕ → List JournalRecord → Type 0
EndingOrMore area before = ((ending : JournalEnd) × Reads area before ending) ⊎ ((r : JournalRecord) × AreInOrder (before ++ r ∷ []) × BeginsWith area (before ++ r ∷ []))

begins_none : (area : List ℕ) → BeginsWith area []
begins_none area = record { short = All-nil HasShortBody; rest = area; spelled = refl }

broken_first : (area : List ℕ) (place : ℕ) → BreaksAt area [] place → EndingOrMore area []
broken_first area place breaks = inl (BrokenAt place, (order-nil, begins_none area, breaks))

first_record : (area tail : List ℕ) → area ≡ header ++ tail → 8 < length area → get_or area 8 0 ≡ open_gate → EndingOrMore area []
first_record area tail is within opened = elim (record_or_none area 8 within) [
  | inl none ↦ broken_first area 8 (first_cut area tail is within opened none)
  | inr found ↦ elim (cases_eq found.0.mark settled_byte) [
    | inl settled ↦ inr (found.0, order-more [] found.0 order-nil (none_last area tail is) found.2 (λ e. settled), first_holds area tail is found.0 found.1 within opened found.3 found.2)
    | inr unsettled ↦ broken_first area (13 + length found.0.body) (first_unsettled area tail is found.0 found.1 within opened found.3 found.2 unsettled)
  ]
]

first_piece : (area : List ℕ) → EndingOrMore area []
first_piece area = elim (header_or_fault area) [
  | inl fault ↦ broken_first area fault.0 (NoHeader refl fault.1)
  | inr starts ↦ elim (cases_lt 8 (length area)) [
    | inl within ↦ elim (cases_eq (get_or area 8 0) open_gate) [
      | inl opened ↦ first_record area starts.0 starts.1 within opened
      | inr closed ↦ broken_first area 8 (first_closed area starts.0 starts.1 within closed)
    ]
    | inr short ↦ broken_first area 8 (first_missing area starts.0 starts.1 short)
  ]
]

module _ (area : List ℕ) (before : List JournalRecord) (some : before ≢ []) (order : AreInOrder before) (begins : BeginsWith area before) where
  gate : ℕ
  gate = length (front before)

  broken : (place : ℕ) → BreaksAt area before place → EndingOrMore area before
  broken place breaks = inl (BrokenAt place, (order, begins, breaks))

  later_record : gate < length area → get_or area gate 0 ≡ open_gate → get_or area (gate - 1) 0 ≡ settled_byte → EndingOrMore area before
  unfolding gate
  later_record within opened settled = elim (record_or_none area gate within) [
    | inl none ↦ broken gate (later_cut area before begins some within opened settled none)
    | inr found ↦ inr (found.0, order-more before found.0 order (end_settled area before begins some settled) found.2 (λ none. absurd (some none)), later_holds area before begins some found.0 found.1 within opened found.3 found.2)
  ]

  later_piece : EndingOrMore area before
  unfolding gate
  later_piece = elim (cases_lt gate (length area)) [
    | inl within ↦ elim (cases_eq (get_or area gate 0) open_gate) [
      | inl opened ↦ elim (cases_eq (get_or area (gate - 1) 0) settled_byte) [
        | inl settled ↦ later_record within opened settled
        | inr unsettled ↦ broken (gate - 1) (later_unsettled area before begins some within opened unsettled)
      ]
      | inr closed ↦ inl (ClosedAt gate, record { order = order; ends = later_closed area before begins some within closed })
    ]
    | inr short ↦ broken gate (later_missing area before begins some short)
  ]

next_piece : (area : List ℕ) (before : List JournalRecord) → AreInOrder before → BeginsWith area before → EndingOrMore area before
next_piece area [] order begins = first_piece area
next_piece area (x ∷ xs) order begins = later_piece area (x ∷ xs) (λ e. cc) order begins

stretch-le : (records : List JournalRecord) → length (stretch records) ≤ length (front records)
stretch-le [] = omega arith
stretch-le (x ∷ xs) = omega arith

-- One record more takes up more.
grows : (records : List JournalRecord) (r : JournalRecord) → length (stretch records) + 1 ≤ length (stretch (records ++ r ∷ []))
grows records r = omega (arith, stretch-le records, length-front-push records r, ap length (stretch-push records r))

reads_from : (area : List ℕ) (fuel : ℕ) (before : List JournalRecord) → AreInOrder before → BeginsWith area before → length area ≤ length (stretch before) + fuel → (records : List JournalRecord) × (ending : JournalEnd) × Reads area records ending
reads_from area zero before order begins enough = elim (next_piece area before order begins) [
  | inl ended ↦ (before, ended.0, ended.1)
  | inr more ↦ absurd (omega (arith, enough, grows before more.0, ap length more.2.spelled, length-append (stretch (before ++ more.0 ∷ [])) more.2.rest))
]
reads_from area (suc fuel) before order begins enough = elim (next_piece area before order begins) [
  | inl ended ↦ (before, ended.0, ended.1)
  | inr more ↦ reads_from area fuel (before ++ more.0 ∷ []) more.1 more.2 (omega (arith, enough, grows before more.0))
]

pub each_reads : (area : List ℕ) → (records : List JournalRecord) × (ending : JournalEnd) × Reads area records ending
each_reads area = reads_from area (length area) [] order-nil (begins_none area) (omega arith)
