-- Pairs of edits that fit, and sorted splices that follow one another.
use Rattle.std.proofs.Common.{◌≡◌, ℕ, ◌+◌, ◌<◌, ◌≤◌, Bool, true, false, not, cond, List, [], length, map, take, get_or, Option, Some, None, ◌⊎◌, inl, inr, refl, sym, ap, ◌∙◌, arith}
use Rattle.std.specs.List.{All, AllPairs, AllAdjacentBelow, position, position_or_len, range_with_len}
use Rattle.std.specs.Option.{option_map}
use Rattle.std.specs.List.Sorted.{IsPermutation, IsSortedByKey, IsStableByKey}
use Rattle.std.specs.Ordering.{nat_cmp}
use Rattle.std.proofs.lemmas.Bool.{cases_lt, cases_order, lt-ltb}
use Rattle.std.proofs.lemmas.Bool.Decides.{nat_tests}
use Rattle.std.proofs.lemmas.List.{get_or-map, get_or-take, length-map, length-take}
use Rattle.std.proofs.lemmas.List.Elements.{All-contains}
use Rattle.std.proofs.lemmas.List.Quantifiers.{position-Some}
use Rattle.std.proofs.lemmas.List.Sorted.{All-permutation, IsNonDecreasingBy-from_sort, IsPermutation-sym}
use Rattle.std.proofs.lemmas.List.Sums.{prefix_len_passes}
use Rattle.wse_path.specs.declared.position.Encoding.{Encoding}
use Rattle.wse_path.specs.declared.position.Position.{Position}
use Rattle.wse_path.specs.declared.position.TextEdit.{TextEdit}
use Rattle.wse_splice.specs.declared.splice.Splice.{Splice}
use Rattle.wse_splice.specs.Splice.{Fits}
use Rattle.wse_splice.proofs.OrderLemmas.{AllPairs-from_Fits, Fits-from_AllPairs}
use Rattle.wse_edits.specs.declared.range.TextRange.{TextRange}
use Rattle.wse_edits.specs.declared.refused.EditsRefused.{EditsRefused}
use Rattle.wse_edits.specs.declared.refused.EditsRefused.TheVariants.{Overlap}
use Rattle.wse_edits.specs.Edited.{splice_in, splices_of}
use Rattle.wse_edits.specs.Range.{live_range, ranges_of}
use Rattle.wse_edits.specs.Refusal.{find_map, fits_pair, overlaps, overlap_at, overlap_of}
use Rattle.wse_edits.proofs.SearchLemmas.{find_map-flat_map, find_map-map, find_map-same, none_in_range, range_none, range_first}
use Rattle.wse_edits.proofs.PairLemmas.{Has, StandsBefore, Contains-from_Has, Has-permutation, AllPairs-from_before, before_from_AllPairs, has_first, has_second, either_first, before-filter_map, before_from_filter_map, before-stable}

-- What is said against the pairs of which that edit is the later one.
abbrev pub said_of : List (Option TextRange) → ℕ → Option EditsRefused
said_of ranges second = find_map (λ first. overlap_at ranges (first, second)) (range_with_len 0 second)

overlap_of-by_second : (ranges : List (Option TextRange)) → overlap_of ranges ≡ find_map (said_of ranges) (range_with_len 0 (length ranges))
overlap_of-by_second ranges =
    find_map-flat_map (overlap_at ranges) (λ second. map (λ first. (first, second)) (range_with_len 0 second)) (range_with_len 0 (length ranges))
    ∙ find_map-same _ (said_of ranges) (λ second. find_map-map (overlap_at ranges) (λ first. (first, second)) (range_with_len 0 second)) (range_with_len 0 (length ranges))

-- The first range in front of that one which overlaps it.
abbrev pub first_in_front : List (Option TextRange) → ℕ → Option ℕ
first_in_front ranges second = position (λ range. overlaps range (get_or ranges second None)) (take second ranges)

said_at : (ranges : List (Option TextRange)) (first second : ℕ) (b : Bool) → first < second → overlaps (get_or (take second ranges) first None) (get_or ranges second None) ≡ b → overlap_at ranges (first, second) ≡ cond b (Some (Overlap first second)) None
said_at ranges first second b low answer =
    ap (λ b. cond b (Some (Overlap first second)) None) (ap (λ range. overlaps range (get_or ranges second None)) (sym (get_or-take second ranges first None low)) ∙ answer)

said_of-first : (ranges : List (Option TextRange)) (first second : ℕ) → second < length ranges → first_in_front ranges second ≡ Some first → said_of ranges second ≡ Some (Overlap first second)
said_of-first ranges first second within found =
    let at = position-Some (λ range. overlaps range (get_or ranges second None)) (take second ranges) first None found in
    let low : first < second = omega (arith, at.0, length-take second ranges) in
    range_first (λ first. overlap_at ranges (first, second)) 0 second first (Overlap first second) (omega arith) (omega arith) (λ j above below. said_at ranges j second false (omega arith) (at.2 j below)) (said_at ranges first second true low at.1)

not_true : (b : Bool) → not b ≡ true → b ≡ false
not_true true h = cc
not_true false h = refl

position-None : {X : Type 0} (p : X → Bool) (xs : List X) (k : ℕ) (d : X) → position p xs ≡ None → k < length xs → p (get_or xs k d) ≡ false
position-None p xs k d none low = elim (cases_lt (position_or_len p xs) (length xs)) [
  | inl found ↦ let some : None ≡ Some (position_or_len p xs) = sym none ∙ ap (λ b. cond b (Some (position_or_len p xs)) None) (lt-ltb (position_or_len p xs) (length xs) found) in cc
  | inr past ↦ not_true _ (prefix_len_passes (λ x. not (p x)) xs k d (omega arith))
]

said_of-none : (ranges : List (Option TextRange)) (second : ℕ) → second < length ranges → first_in_front ranges second ≡ None → said_of ranges second ≡ None
said_of-none ranges second within none =
    range_none (λ first. overlap_at ranges (first, second)) 0 second
    (λ k above below. said_at ranges k second false (omega arith) (position-None (λ range. overlaps range (get_or ranges second None)) (take second ranges) k None none (omega (arith, length-take second ranges))))

-- Nothing is said against the pairs whose later edit stands before that number.
abbrev pub IsQuietBefore : List (Option TextRange) → ℕ → Type 0
IsQuietBefore ranges n = (second : ℕ) → second < n → said_of ranges second ≡ None

pub overlap_of-first : (ranges : List (Option TextRange)) (first second : ℕ) → second < length ranges → IsQuietBefore ranges second → first_in_front ranges second ≡ Some first → overlap_of ranges ≡ Some (Overlap first second)
overlap_of-first ranges first second within quiet found =
    overlap_of-by_second ranges ∙ range_first (said_of ranges) 0 (length ranges) second (Overlap first second) (omega arith) (omega arith) (λ j above below. quiet j below) (said_of-first ranges first second within found)

pub overlap_of-none : (ranges : List (Option TextRange)) (n : ℕ) → length ranges ≤ n → IsQuietBefore ranges n → overlap_of ranges ≡ None
overlap_of-none ranges n all quiet =
    overlap_of-by_second ranges ∙ range_none (said_of ranges) 0 (length ranges) (λ j above below. quiet j (omega arith))

pub IsQuietBefore-more : (ranges : List (Option TextRange)) (n : ℕ) → n < length ranges → IsQuietBefore ranges n → first_in_front ranges n ≡ None → IsQuietBefore ranges (n + 1)
IsQuietBefore-more ranges n within quiet none = λ second low. elim (cases_lt second n) [
  | inl lower ↦ quiet second lower
  | inr here ↦ ap (said_of ranges) {x = second} {y = n} (omega arith) ∙ said_of-none ranges n within none
]

pub not_said : {Y : Type 0} (b : Bool) (y : Y) → cond b (Some y) None ≡ None → b ≡ false
not_said true y h = cc
not_said false y h = refl

module _ (text : List ℕ) (enc : Encoding) (edits : List TextEdit) where
  -- The edits don't overlap.
  abbrev pub Apart : TextEdit → TextEdit → Type 0
  Apart e f = overlaps (live_range text enc e) (live_range text enc f) ≡ false

  -- An edit of nothing, for where a list of edits is read by a number.
  abbrev nothing : TextEdit
  nothing = let here : Position = record { line = 0; character = 0 } in record { start = here; end = here; new_text = []; skipped = true }

  abbrev ranges : List (Option TextRange)
  ranges = ranges_of text enc edits

  same_pair : (i j : ℕ) (d : TextEdit) → i < length edits → j < length edits → overlaps (get_or ranges i None) (get_or ranges j None) ≡ overlaps (live_range text enc (get_or edits i d)) (live_range text enc (get_or edits j d))
  same_pair i j d low high = λ k. overlaps (get_or-map (live_range text enc) edits i d None low k) (get_or-map (live_range text enc) edits j d None high k)

  pub apart_from_none : overlap_of ranges ≡ None → AllPairs Apart edits
  apart_from_none none = λ i j d before low.
      let high : j < length ranges = omega (arith, length-map edits (live_range text enc)) in
      let later : said_of ranges j ≡ None = none_in_range (said_of ranges) 0 (length ranges) j (sym (overlap_of-by_second ranges) ∙ none) (omega arith) (omega arith) in
      let pair = none_in_range (λ first. overlap_at ranges (first, j)) 0 j i later (omega arith) (omega arith) in
      sym (same_pair i j d (omega arith) low) ∙ not_said _ (Overlap i j) pair

  pub none_from_apart : AllPairs Apart edits → overlap_of ranges ≡ None
  none_from_apart apart =
      overlap_of-by_second ranges
      ∙ range_none (said_of ranges) 0 (length ranges)
      (λ j above below. range_none (λ first. overlap_at ranges (first, j)) 0 j
      (λ i low high.
      let within : j < length edits = omega (arith, length-map edits (live_range text enc)) in
      ap (λ b. cond b (Some (Overlap i j)) None) (same_pair i j nothing (omega arith) within ∙ apart i j nothing (omega arith) within)))

-- A splice's range.
abbrev pub span : Splice → TextRange
span s = record { start = s.start; end = s.end }

-- The splice of an earlier edit fits that of a later one.
abbrev pub Fit : Splice → Splice → Type 0
Fit s t = (s.end ≤ t.start) ⊎ ((t.end ≤ s.start) × (t.start < s.start))

Fit-from_test : (s t : Splice) → not (fits_pair (span s) (span t)) ≡ false → Fit s t
Fit-from_test s t h = grind (arith, nat_tests)

test_from_Fit : (s t : Splice) → Fit s t → not (fits_pair (span s) (span t)) ≡ false
test_from_Fit s t (inl first) = grind (arith, nat_tests)
test_from_Fit s t (inr second) = grind (arith, nat_tests)

range_of_splice : (e : TextEdit) (range : Option TextRange) (s : Splice) → splice_in e range ≡ Some s → range ≡ Some (span s)
range_of_splice e None s gives = cc
range_of_splice e (Some r) s gives = ap (option_map span) gives

-- Each splice fits the later ones.
abbrev pub AllFit : List Splice → Type 0
AllFit ss = (s t : Splice) → StandsBefore s t ss → Fit s t

module _ (text : List ℕ) (enc : Encoding) (edits : List TextEdit) where
  fit_from_apart : AllPairs (Apart text enc edits) edits → AllFit (splices_of text enc edits)
  fit_from_apart apart = λ s t before.
      before_from_filter_map (λ e. splice_in e (live_range text enc e)) edits s t before (λ e f there gives_s gives_t.
      let ranges_are : overlaps (live_range text enc e) (live_range text enc f) ≡ overlaps (Some (span s)) (Some (span t)) = λ i. overlaps (range_of_splice e (live_range text enc e) s gives_s i) (range_of_splice f (live_range text enc f) t gives_t i) in
      Fit-from_test s t (sym ranges_are ∙ before_from_AllPairs (Apart text enc edits) edits e f apart there))

  apart_at : (e f : TextEdit) (a b : Option TextRange) → live_range text enc e ≡ a → live_range text enc f ≡ b → AllFit (splices_of text enc edits) → StandsBefore e f edits → overlaps a b ≡ false
  apart_at e f None b a_is b_is fit before = refl
  apart_at e f (Some a) None a_is b_is fit before = refl
  apart_at e f (Some a) (Some b) a_is b_is fit before =
      let s : Splice = record { start = a.start; end = a.end; text = e.new_text } in
      let t : Splice = record { start = b.start; end = b.end; text = f.new_text } in
      test_from_Fit s t (fit s t (before-filter_map (λ e. splice_in e (live_range text enc e)) edits e f s t (ap (splice_in e) a_is) (ap (splice_in f) b_is) before))

  apart_from_fit : AllFit (splices_of text enc edits) → AllPairs (Apart text enc edits) edits
  apart_from_fit fit = AllPairs-from_before (Apart text enc edits) edits (λ e f before. apart_at e f (live_range text enc e) (live_range text enc f) refl refl fit before)

forward : (s t : Splice) → s.start ≤ t.start → Fit s t → s.end ≤ t.start
forward s t low (inl first) = first
forward s t low (inr second) = absurd (let lower = second.1 in omega arith)

backward : (s t : Splice) → s.start < t.start → t.start ≤ t.end → Fit t s → s.end ≤ t.start
backward s t low rises (inl first) = absurd (omega arith)
backward s t low rises (inr second) = second.0

-- ys is what a stable sort by start makes of xs, whose splices lie in a text of n bytes.
pub record IsSorting (xs ys : List Splice) (n : ℕ) : Type 0 where
  pub permutation : IsPermutation xs ys
  pub sorted : IsSortedByKey (λ s. s.start) nat_cmp ys
  pub stable : IsStableByKey (λ s. s.start) nat_cmp xs ys
  pub within : All (λ s. (s.start ≤ s.end) × (s.end ≤ n)) xs

module _ {xs ys : List Splice} {n : ℕ} (sorting : IsSorting xs ys n) where
  rises : (s : Splice) → Has s xs → s.start ≤ s.end
  rises s has = (All-contains (λ s. (s.start ≤ s.end) × (s.end ≤ n)) xs s sorting.within (Contains-from_Has xs s has)).0

  of_xs : (s : Splice) → Has s ys → Has s xs
  of_xs s has = Has-permutation ys xs s (IsPermutation-sym xs ys sorting.permutation) has

  differ : (s t : Splice) → s.start < t.start → s ≡ t → ⊥
  differ s t low same = let starts : s.start ≡ t.start = ap (λ (s : Splice). s.start) same in omega arith

  follow : (s t : Splice) → AllFit xs → StandsBefore s t ys → s.end ≤ t.start
  follow s t fit before =
      let up : s.start ≤ t.start = before_from_AllPairs (λ s t. s.start ≤ t.start) ys s t (λ i j d low high. IsNonDecreasingBy-from_sort (λ (s : Splice). s.start) ys sorting.sorted i j d (omega arith) high) before in
      let s_there = of_xs s (has_first ys s t before) in
      let t_there = of_xs t (has_second ys s t before) in
      elim (cases_lt s.start t.start) [
        | inl lower ↦ elim (either_first xs s t s_there t_there (differ s t lower)) [
          | inl first ↦ forward s t up (fit s t first)
          | inr first ↦ backward s t lower (rises t t_there) (fit t s first)
        ]
        | inr same ↦ forward s t up (fit s t (before-stable (λ (s : Splice). s.start) ys xs s t (λ x. sym (sorting.stable x)) (omega arith) before))
      ]

  -- Splices of which each fits the later ones follow one another once they are sorted.
  pub Fits-sorted : AllFit xs → Fits ys n
  Fits-sorted fit =
      Fits-from_AllPairs ys n (All-permutation (λ (s : Splice). (s.start ≤ s.end) × (s.end ≤ n)) xs ys sorting.permutation sorting.within) (AllPairs-from_before (λ s t. s.end ≤ t.start) ys (λ s t before. follow s t fit before))

  -- Splices that follow one another once they are sorted fit, each the later ones.
  pub fit_from_Fits : Fits ys n → AllFit xs
  fit_from_Fits fits = λ s t before.
      let pair = λ (s t : Splice) (before : StandsBefore s t ys). before_from_AllPairs (λ (s t : Splice). s.end ≤ t.start) ys s t (AllPairs-from_Fits ys n fits) before in
      let s_there = Has-permutation xs ys s sorting.permutation (has_first xs s t before) in
      let t_there = Has-permutation xs ys t sorting.permutation (has_second xs s t before) in
      let s_rises = rises s (has_first xs s t before) in
      let t_rises = rises t (has_second xs s t before) in
      elim (cases_order s.start t.start) [
        | inl same ↦ inl (pair s t (before-stable (λ (s : Splice). s.start) xs ys s t sorting.stable same before))
        | inr (inl lower) ↦ elim (either_first ys s t s_there t_there (differ s t lower)) [
          | inl first ↦ inl (pair s t first)
          | inr first ↦ absurd (let ends = pair t s first in omega arith)
        ]
        | inr (inr lower) ↦ elim (either_first ys t s t_there s_there (differ t s lower)) [
          | inl first ↦ inr (pair t s first, lower)
          | inr first ↦ absurd (let ends = pair s t first in omega arith)
        ]
      ]

module _ (text : List ℕ) (enc : Encoding) (edits : List TextEdit) (ys : List Splice) (sorting : IsSorting (splices_of text enc edits) ys (length text)) where
  pub Fits-from_none : overlap_of (ranges_of text enc edits) ≡ None → Fits ys (length text)
  Fits-from_none none = Fits-sorted sorting (fit_from_apart text enc edits (apart_from_none text enc edits none))

  pub none_from_neighbours : AllAdjacentBelow (λ s t. s.end ≤ t.start) ys (length ys) → overlap_of (ranges_of text enc edits) ≡ None
  none_from_neighbours ordered =
      none_from_apart text enc edits (apart_from_fit text enc edits (fit_from_Fits sorting (record { within = All-permutation (λ (s : Splice). (s.start ≤ s.end) × (s.end ≤ length text)) (splices_of text enc edits) ys sorting.permutation sorting.within; ordered = ordered })))
