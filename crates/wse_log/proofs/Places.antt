-- What stands where in an area that begins with records.
use Rattle.std.proofs.Common.{◌≡◌, ◌≢◌, ℕ, ◌+◌, ◌-◌, ◌<◌, ◌≤◌, List, [], ◌∷◌, ◌++◌, length, get_or, take, drop, refl, sym, ◌∙◌, ap, arith, append_assoc, length-append}
use Rattle.std.specs.Prelude.{slice_get, Some}
use Rattle.std.specs.List.{All, flat_map}
use Rattle.std.proofs.lemmas.Grind.{flat_map-append}
use Rattle.std.proofs.lemmas.Option.{slice_get-get_or}
use Rattle.std.proofs.lemmas.List.{append-nil, get_or_at, take_at, drop_at, drop_more, length_push, nil_from_length}
use Rattle.std.proofs.lemmas.List.Elements.{All-nil, All-same, All-take}
use Rattle.wse_log.specs.Grammar.{JournalRecord, HasShortBody, header, framed, behind_gate, front, stretch, BeginsWith, EndsClosed}
use Rattle.wse_log.proofs.Fronts.{front-push, length-front-le, stretch-some}

-- A byte behind the records.
pub byte_behind : (area : List ℕ) (records : List JournalRecord) (byte : ℕ) (rest : List ℕ) → area ≡ front records ++ byte ∷ rest → slice_get area (length (front records)) ≡ Some byte
byte_behind area records byte rest is =
    let g = length (front records) in
    let within : g < length area = omega (arith, ap length is, length-append (front records) (byte ∷ rest)) in
    slice_get-get_or area g 0 within ∙ ap Some (ap (λ (l : List ℕ). get_or l g 0) is ∙ get_or_at (front records) byte rest 0 g refl)

pub rest_behind : (area : List ℕ) (records : List JournalRecord) (byte : ℕ) (rest : List ℕ) → area ≡ front records ++ byte ∷ rest → drop (length (front records) + 1) area ≡ rest
rest_behind area records byte rest is =
    ap (drop (length (front records) + 1)) (is ∙ sym (append_assoc (front records) (byte ∷ []) rest))
    ∙ drop_at (front records ++ byte ∷ []) rest (length (front records) + 1) (length_push (front records) byte)

-- The byte that a read there gives, and all behind it.
pub byte_and_rest : (area : List ℕ) (records : List JournalRecord) (rest : List ℕ) → area ≡ front records ++ rest → length (front records) < length area → area ≡ front records ++ get_or area (length (front records)) 0 ∷ drop (length (front records) + 1) area
byte_and_rest area records rest is within =
    let g = length (front records) in
    let tail : drop g area ≡ rest = ap (drop g) is ∙ drop_at (front records) rest g refl in
    let next : rest ≡ get_or area g 0 ∷ drop (g + 1) area = sym tail ∙ drop_more area g 0 within in
    is ∙ ap (λ (l : List ℕ). front records ++ l) next

-- The area ends where the gate behind the records would stand.
pub ends_behind : (area : List ℕ) (records : List JournalRecord) (rest : List ℕ) → area ≡ front records ++ rest → length area ≤ length (front records) → area ≡ front records
ends_behind area records rest is short =
    let none : rest ≡ [] = nil_from_length rest (omega (arith, ap length is, length-append (front records) rest)) in
    is ∙ ap (λ (l : List ℕ). front records ++ l) none ∙ append-nil (front records)

pub begins_with_header : (area : List ℕ) (records : List JournalRecord) (rest : List ℕ) → area ≡ front records ++ rest → (tail : List ℕ) × (area ≡ header ++ tail)
unfolding front
begins_with_header area records rest is = (flat_map framed records ++ rest, is ∙ append_assoc header (flat_map framed records) rest)

-- The mark of the last record, in front of the gate behind it.
pub mark_before : (area : List ℕ) (records : List JournalRecord) (r : JournalRecord) (rest : List ℕ) → area ≡ front (records ++ r ∷ []) ++ rest → get_or area (length (front (records ++ r ∷ [])) - 1) 0 ≡ r.mark
mark_before area records r rest is =
    let head : List ℕ = front records ++ (165 ∷ take 4 (behind_gate r) ++ r.body) in
    let split : front (records ++ r ∷ []) ≡ head ++ r.mark ∷ [] = front-push records r ∙ sym (append_assoc (front records) (165 ∷ take 4 (behind_gate r) ++ r.body) (r.mark ∷ [])) in
    let whole : area ≡ head ++ r.mark ∷ rest = is ∙ ap (λ (l : List ℕ). l ++ rest) split ∙ append_assoc head (r.mark ∷ []) rest in
    let at' : length head ≡ length (front (records ++ r ∷ [])) - 1 = omega (arith, ap length split, length_push head r.mark) in
    ap (λ (l : List ℕ). get_or l (length (front (records ++ r ∷ [])) - 1) 0) whole ∙ get_or_at head r.mark rest 0 (length (front (records ++ r ∷ [])) - 1) at'

front-append : (before after : List JournalRecord) → front (before ++ after) ≡ front before ++ flat_map framed after
unfolding front
front-append before after = ap (λ (l : List ℕ). header ++ l) (flat_map-append framed before after) ∙ sym (append_assoc header (flat_map framed before) (flat_map framed after))

-- What the area begins with, of fewer records.
pub fewer : (area : List ℕ) (before after : List JournalRecord) → BeginsWith area (before ++ after) → BeginsWith area before
fewer area [] after begins = record { short = All-nil HasShortBody; rest = area; spelled = refl }
fewer area (x ∷ xs) after begins = record {
  short = All-front (x ∷ xs) after begins.short;
  rest = flat_map framed after ++ begins.rest;
  spelled = begins.spelled ∙ ap (λ (l : List ℕ). l ++ begins.rest) (front-append (x ∷ xs) after) ∙ append_assoc (front (x ∷ xs)) (flat_map framed after) begins.rest;
}
  where
    All-front : (before after : List JournalRecord) → All HasShortBody (before ++ after) → All HasShortBody before
    All-front before after all = All-same HasShortBody before (take (length before) (before ++ after)) (sym (take_at before after (length before) refl)) (All-take HasShortBody (length before) (before ++ after) all)

pub closed_begins : (area : List ℕ) (records : List JournalRecord) (gate : ℕ) → All HasShortBody records → EndsClosed area records gate → BeginsWith area records
closed_begins area records gate short is = record {
  short = short;
  rest = is.byte ∷ is.rest;
  spelled = is.spelled ∙ ap (λ (l : List ℕ). l ++ is.byte ∷ is.rest) (sym (stretch-some records is.some));
}

-- Behind no records stands the first piece, at 0. Every other piece stands at a gate.
pub none_at_zero : (records : List JournalRecord) → 0 ≡ length (stretch records) → records ≡ []
none_at_zero [] at' = refl
none_at_zero (x ∷ xs) at' = absurd (omega (arith, at', length-front-le (x ∷ xs)))

pub some_later : (records : List JournalRecord) → 0 < length (stretch records) → records ≢ []
some_later [] later = absurd (omega arith)
some_later (x ∷ xs) later = λ e. cc
