-- The place of a character on a line, one code point at a time.
use Rattle.std.proofs.Common.{◌≡◌, ℕ, ◌+◌, ◌-◌, ◌<◌, ◌≤◌, suc, zero, Bool, true, false, List, [], ◌∷◌, length, take, cond, eqb, leb, count_by, Result, Ok, Err, refl, sym, ap, ◌∙◌, arith}
use Rattle.std.specs.List.{range_with_len}
use Rattle.std.specs.Char.{len_utf8}
use Rattle.std.proofs.lemmas.Bool.{le-leb, lt-leb, ne_eqb}
use Rattle.std.proofs.lemmas.Bool.Decides.{nat_tests}
use Rattle.std.proofs.lemmas.List.Sums.{sum_by-cons}
use Rattle.std.proofs.lemmas.Str.{len_utf8_bounds}
use Rattle.wse_path.specs.declared.position.Encoding.{Encoding}
use Rattle.wse_path.specs.declared.position.Encoding.TheVariants.{Utf8, Utf16, Utf32}
use Rattle.wse_text.specs.declared.place.Inside.{Inside}
use Rattle.wse_text.specs.Place.{units_of, all_units, points_within, place_on_line}

-- Each code point has a unit.
some_units : (enc : Encoding) (c : ℕ) → 1 ≤ units_of enc c
some_units Utf8 c = (len_utf8_bounds c).0
some_units Utf16 c = grind (arith, nat_tests)
some_units Utf32 c = omega arith

all_units-cons : (enc : Encoding) (c : ℕ) (points : List ℕ) → all_units enc (c ∷ points) ≡ units_of enc c + all_units enc points
all_units-cons enc c points = sum_by-cons (units_of enc) c points

count_none : (p : ℕ → Bool) (ks : List ℕ) → ((k : ℕ) → p k ≡ false) → count_by p ks ≡ 0
count_none p [] none = refl
count_none p (k ∷ ks) none = sum_by-cons _ k ks ∙ (λ i. cond (none k i) 1 0 + count_none p ks none i)

count_same : (p q : ℕ → Bool) (ks : List ℕ) → ((k : ℕ) → p k ≡ q k) → count_by p ks ≡ count_by q ks
count_same p q [] same = refl
count_same p q (k ∷ ks) same = sum_by-cons _ k ks ∙ (λ i. cond (same k i) 1 0 + count_same p q ks same i) ∙ sym (sum_by-cons _ k ks)

-- The numbers one higher, each tested one lower.
count_higher : (p : ℕ → Bool) (a n : ℕ) → count_by p (range_with_len (suc a) n) ≡ count_by (λ k. p (suc k)) (range_with_len a n)
count_higher p a zero = refl
count_higher p a (suc n) =
    let next : suc a + 1 ≡ suc (a + 1) = omega arith in
    sum_by-cons _ (suc a) (range_with_len (suc a + 1) n)
    ∙ ap (λ t. cond (p (suc a)) 1 0 + t) (ap (λ b. count_by p (range_with_len b n)) next ∙ count_higher p (a + 1) n)
    ∙ sym (sum_by-cons _ a (range_with_len (a + 1) n))

-- Tests of a sum against the whole count, and of what it has behind the first part against what is left.
leb_less : (first sum count : ℕ) → first ≤ count → leb (first + sum) count ≡ leb sum (count - first)
leb_less first sum count low = grind (arith, nat_tests)

eqb_less : (first sum count : ℕ) → first ≤ count → eqb (first + sum) count ≡ eqb sum (count - first)
eqb_less first sum count low = grind (arith, nat_tests)

none_within : (enc : Encoding) (c : ℕ) (points : List ℕ) (character : ℕ) → character < units_of enc c → points_within enc (c ∷ points) character ≡ 0
none_within enc c points character low =
    count_higher (λ k. leb (all_units enc (take k (c ∷ points))) character) 0 (suc (length points))
    ∙ count_none _ (range_with_len 0 (suc (length points))) (λ k. lt-leb (all_units enc (c ∷ take k points)) character (omega (arith, all_units-cons enc c (take k points))))

one_within : (enc : Encoding) (c : ℕ) (points : List ℕ) (character : ℕ) → units_of enc c ≤ character → points_within enc (c ∷ points) character ≡ suc (points_within enc points (character - units_of enc c))
one_within enc c points character low =
    let p = λ (k : ℕ). leb (all_units enc (take k (c ∷ points))) character in
    let q = λ (k : ℕ). leb (all_units enc (take k points)) (character - units_of enc c) in
    let first : p 1 ≡ true = le-leb (all_units enc (c ∷ [])) character (omega (arith, all_units-cons enc c [])) in
    let others : count_by p (range_with_len 2 (length points)) ≡ count_by q (range_with_len 1 (length points)) =
    count_higher p 1 (length points)
    ∙ count_same _ q (range_with_len 1 (length points)) (λ k. ap (λ sum. leb sum character) (all_units-cons enc c (take k points)) ∙ leb_less (units_of enc c) (all_units enc (take k points)) character low) in
    sum_by-cons _ 1 (range_with_len 2 (length points)) ∙ (λ i. cond (first i) 1 0 + others i) ∙ omega arith

abbrev by_tests : Bool → Bool → ℕ → ℕ → Result ℕ Inside
by_tests fits exact end place = cond fits (Ok end) (cond exact (Ok place) (Err (record { char_start = place })))

-- At the line's end every character is there.
pub place_on_line-nil : (enc : Encoding) (start character : ℕ) → place_on_line enc start [] character ≡ Ok start
place_on_line-nil enc start character =
    let fits : leb (all_units enc []) character ≡ true = le-leb (all_units enc []) character (omega arith) in
    let end : start + all_units Utf8 [] ≡ start = omega arith in
    λ i. by_tests (fits i) (eqb (all_units enc (take (points_within enc [] character) [])) character) (end i) (start + all_units Utf8 (take (points_within enc [] character) []))

first_beyond : (enc : Encoding) (start c : ℕ) (points : List ℕ) (character : ℕ) → character < units_of enc c → place_on_line enc start (c ∷ points) character ≡ cond (eqb 0 character) (Ok start) (Err (record { char_start = start }))
first_beyond enc start c points character low =
    let fits : leb (all_units enc (c ∷ points)) character ≡ false = lt-leb (all_units enc (c ∷ points)) character (omega (arith, all_units-cons enc c points)) in
    let none : take (points_within enc (c ∷ points) character) (c ∷ points) ≡ [] = ap (λ k. take k (c ∷ points)) (none_within enc c points character low) in
    let here : start + all_units Utf8 [] ≡ start = omega arith in
    (λ i. by_tests (fits i) (eqb (all_units enc (none i)) character) (start + all_units Utf8 (c ∷ points)) (start + all_units Utf8 (none i)))
    ∙ (λ i. cond (eqb 0 character) (Ok (here i)) (Err (record { char_start = here i })))

pub place_on_line-zero : (enc : Encoding) (start : ℕ) (points : List ℕ) → place_on_line enc start points 0 ≡ Ok start
place_on_line-zero enc start [] = place_on_line-nil enc start 0
place_on_line-zero enc start (c ∷ points) = let some = some_units enc c in first_beyond enc start c points 0 (omega arith)

-- The units end inside the first code point.
pub place_on_line-inside : (enc : Encoding) (start c : ℕ) (points : List ℕ) (character : ℕ) → 0 < character → character < units_of enc c → place_on_line enc start (c ∷ points) character ≡ Err (record { char_start = start })
place_on_line-inside enc start c points character some low =
    first_beyond enc start c points character low ∙ ap (λ b. cond b (Ok start) (Err (record { char_start = start }))) (ne_eqb 0 character (λ e. absurd (omega arith)))

-- The first code point ends within the units, and the others have what is left of them.
pub place_on_line-cons : (enc : Encoding) (start c : ℕ) (points : List ℕ) (character : ℕ) → units_of enc c ≤ character → place_on_line enc start (c ∷ points) character ≡ place_on_line enc (start + len_utf8 c) points (character - units_of enc c)
place_on_line-cons enc start c points character low =
    let left = character - units_of enc c in
    let behind : List ℕ = take (points_within enc points left) points in
    let within : take (points_within enc (c ∷ points) character) (c ∷ points) ≡ c ∷ behind = ap (λ k. take k (c ∷ points)) (one_within enc c points character low) in
    let fits : leb (all_units enc (c ∷ points)) character ≡ leb (all_units enc points) left = ap (λ sum. leb sum character) (all_units-cons enc c points) ∙ leb_less (units_of enc c) (all_units enc points) character low in
    let exact : eqb (all_units enc (c ∷ behind)) character ≡ eqb (all_units enc behind) left = ap (λ sum. eqb sum character) (all_units-cons enc c behind) ∙ eqb_less (units_of enc c) (all_units enc behind) character low in
    let end : start + all_units Utf8 (c ∷ points) ≡ start + len_utf8 c + all_units Utf8 points = omega (arith, all_units-cons Utf8 c points) in
    let place : start + all_units Utf8 (c ∷ behind) ≡ start + len_utf8 c + all_units Utf8 behind = omega (arith, all_units-cons Utf8 c behind) in
    (λ i. by_tests (leb (all_units enc (c ∷ points)) character) (eqb (all_units enc (within i)) character) (start + all_units Utf8 (c ∷ points)) (start + all_units Utf8 (within i)))
    ∙ (λ i. by_tests (fits i) (exact i) (end i) (place i))
