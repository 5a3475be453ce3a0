-- Edits that fit one another up to a number, and their ranges sorted by start.
use Rattle.std.proofs.Common.{◌≡◌, ℕ, ◌+◌, ◌<◌, ◌≤◌, suc, zero, false, not, cond, List, [], ◌∷◌, ◌++◌, length, take, get_or, max, Option, Some, None, IfSome, ◌⊎◌, inl, inr, subst, refl, sym, ap, ◌∙◌, arith}
use Rattle.std.specs.List.{All, cons_option}
use Rattle.std.specs.List.Sorted.{IsPermutation, IsSortedByKey, IsStableByKey}
use Rattle.std.specs.Option.{option_map}
use Rattle.std.specs.Ordering.{nat_cmp}
use Rattle.std.proofs.lemmas.Bool.{cases_lt, cases_order}
use Rattle.std.proofs.lemmas.Bool.Decides.{nat_tests}
use Rattle.std.proofs.lemmas.List.{get_or_default}
use Rattle.std.proofs.lemmas.List.Sorted.{IsNonDecreasingBy-from_sort, IsPermutation-sym}
use Rattle.std.proofs.lemmas.Option.{same_Some}
use Rattle.wse_edits.specs.declared.fitting.NumberedRange.{NumberedRange}
use Rattle.wse_edits.specs.declared.range.TextRange.{TextRange}
use Rattle.wse_edits.specs.declared.refused.EditsRefused.TheVariants.{Overlap}
use Rattle.wse_edits.specs.Fitting.{FitBelow, FollowBelow, numbered_from, with_number}
use Rattle.wse_edits.specs.Range.{Rises}
use Rattle.wse_edits.specs.Refusal.{fits_pair, overlaps, overlap_at, overlap_of}
use Rattle.wse_edits.proofs.OverlapLemmas.{IsQuietBefore, IsQuietBefore-more, first_in_front, not_said, overlap_of-first, overlap_of-none}
use Rattle.wse_edits.proofs.PairLemmas.{Has, StandsBefore, AllPairs-from_before, Has-permutation, before-stable, before_from_AllPairs, either_first, has_first, has_second}
use Rattle.wse_edits.proofs.SearchLemmas.{none_in_range, range_none}

abbrev range_at : List (Option TextRange) → ℕ → Option TextRange
range_at ranges k = get_or ranges k None

-- That edits fit below a number says the same as that nothing is said against them.
module _ (ranges : List (Option TextRange)) (n : ℕ) where
  pub IsQuietBefore-from_fit : FitBelow ranges n → IsQuietBefore ranges n
  IsQuietBefore-from_fit fit = λ second low.
      range_none (λ first. overlap_at ranges (first, second)) 0 second (λ first above below. ap (λ b. cond b (Some (Overlap first second)) None) (fit first second (omega arith) low))

  pub fit_from_IsQuietBefore : IsQuietBefore ranges n → FitBelow ranges n
  fit_from_IsQuietBefore quiet = λ first second before low.
      not_said (overlaps (range_at ranges first) (range_at ranges second)) (Overlap first second) (none_in_range (λ first. overlap_at ranges (first, second)) 0 second first (quiet second low) (omega arith) (omega arith))

-- What is said where all fit, and where those below a number fit and the one with that number doesn't.
pub overlap_of-all_fit : (ranges : List (Option TextRange)) (n : ℕ) → length ranges ≤ n → FitBelow ranges n → overlap_of ranges ≡ None
overlap_of-all_fit ranges n all fit = overlap_of-none ranges n all (IsQuietBefore-from_fit ranges n fit)

pub overlap_of-fit_below : (ranges : List (Option TextRange)) (first second : ℕ) → second < length ranges → FitBelow ranges second → first_in_front ranges second ≡ Some first → overlap_of ranges ≡ Some (Overlap first second)
overlap_of-fit_below ranges first second within fit found = overlap_of-first ranges first second within (IsQuietBefore-from_fit ranges second fit) found

pub one_in_front : (ranges : List (Option TextRange)) (second : ℕ) → second < length ranges → FitBelow ranges second → (FitBelow ranges (second + 1) → ⊥) → first_in_front ranges second ≡ None → ⊥
one_in_front ranges second within fit no_more none = no_more (fit_from_IsQuietBefore ranges (second + 1) (IsQuietBefore-more ranges second within (IsQuietBefore-from_fit ranges second fit) none))

abbrev span_of : NumberedRange → TextRange
span_of s = record { start = s.start; end = s.end }

has_behind : (o : Option NumberedRange) (t : NumberedRange) (xs : List NumberedRange) → Has t xs → Has t (cons_option o xs)
has_behind None t xs there = there
has_behind (Some x) t xs there = inr there

cons_option-append : (o : Option NumberedRange) (xs ys : List NumberedRange) → cons_option o (xs ++ ys) ≡ cons_option o xs ++ ys
cons_option-append None xs ys = refl
cons_option-append (Some x) xs ys = refl

-- One range more.
numbered_from-more : (ranges : List (Option TextRange)) (number i : ℕ) (range : Option TextRange) → i < length ranges → get_or ranges i None ≡ range → numbered_from number (take (i + 1) ranges) ≡ numbered_from number (take i ranges) ++ cons_option (option_map (with_number (number + i)) range) []
numbered_from-more [] number i range low is = absurd (omega arith)
numbered_from-more (r ∷ rs) number zero range low is =
    let same : number ≡ number + 0 = omega arith in
    λ k. cons_option (option_map (with_number (same k)) (is k)) []
numbered_from-more (r ∷ rs) number (suc i) range low is =
    let next : suc number + i ≡ number + suc i = omega arith in
    ap (λ n. numbered_from number (take n (r ∷ rs))) {x = suc i + 1} {y = suc (i + 1)} (omega arith)
    ∙ ap (cons_option (option_map (with_number number) r)) (numbered_from-more rs (suc number) i range (omega arith) is)
    ∙ cons_option-append (option_map (with_number number) r) (numbered_from (suc number) (take i rs)) (cons_option (option_map (with_number (suc number + i)) range) [])
    ∙ ap (λ k. cons_option (option_map (with_number number) r) (numbered_from (suc number) (take i rs)) ++ cons_option (option_map (with_number k) range) []) next

pub numbered_from_0-more : (ranges : List (Option TextRange)) (i : ℕ) (range : Option TextRange) → i < length ranges → get_or ranges i None ≡ range → numbered_from 0 (take (i + 1) ranges) ≡ numbered_from 0 (take i ranges) ++ cons_option (option_map (with_number i) range) []
numbered_from_0-more ranges i range low is =
    numbered_from-more ranges 0 i range low is ∙ ap (λ k. numbered_from 0 (take i ranges) ++ cons_option (option_map (with_number k) range) []) {x = 0 + i} {y = i} (omega arith)

-- A numbered range is that of the list at its number.
record IsNumbered (number : ℕ) (ranges : List (Option TextRange)) (s : NumberedRange) : Type 0 where
  at : ℕ
  within : at < length ranges
  number_is : s.number ≡ number + at
  range_is : range_at ranges at ≡ Some (span_of s)

IsNumbered-behind : (number : ℕ) (r : Option TextRange) (ranges : List (Option TextRange)) (s : NumberedRange) → IsNumbered (suc number) ranges s → IsNumbered number (r ∷ ranges) s
IsNumbered-behind number r ranges s is = record {
  at = suc is.at;
  within = let within = is.within in omega arith;
  number_is = let here = is.number_is in omega arith;
  range_is = is.range_is;
}

IsNumbered-from_Has : (number : ℕ) (ranges : List (Option TextRange)) (s : NumberedRange) → Has s (numbered_from number ranges) → IsNumbered number ranges s
IsNumbered-from_Has number [] s has = absurd has
IsNumbered-from_Has number (None ∷ ranges) s has = IsNumbered-behind number None ranges s (IsNumbered-from_Has (suc number) ranges s has)
IsNumbered-from_Has number (Some r ∷ ranges) s (inl is) = record {
  at = 0;
  within = omega arith;
  number_is = let here : number ≡ s.number = ap (λ (s : NumberedRange). s.number) is in omega arith;
  range_is = ap (λ (s : NumberedRange). Some (span_of s)) is;
}
IsNumbered-from_Has number (Some r ∷ ranges) s (inr there) = IsNumbered-behind number (Some r) ranges s (IsNumbered-from_Has (suc number) ranges s there)

Has-numbered : (number : ℕ) (ranges : List (Option TextRange)) (k : ℕ) (r : TextRange) → k < length ranges → range_at ranges k ≡ Some r → Has (with_number (number + k) r) (numbered_from number ranges)
Has-numbered number [] k r low is = absurd (omega arith)
Has-numbered number (o ∷ os) zero r low is =
    let same : number ≡ number + 0 = omega arith in
    subst (λ o. Has (with_number (number + 0) r) (cons_option (option_map (with_number number) o) (numbered_from (suc number) os))) (sym is) (inl (ap (λ k. with_number k r) same))
Has-numbered number (o ∷ os) (suc k) r low is =
    let next : suc number + k ≡ number + suc k = omega arith in
    has_behind (option_map (with_number number) o) _ (numbered_from (suc number) os) (subst (λ k. Has (with_number k r) (numbered_from (suc number) os)) next (Has-numbered (suc number) os k r (omega arith) is))

-- Their numbers rise.
numbers_rise : (number : ℕ) (ranges : List (Option TextRange)) (s t : NumberedRange) → StandsBefore s t (numbered_from number ranges) → s.number < t.number
numbers_rise number [] s t none = absurd none
numbers_rise number (None ∷ ranges) s t before = numbers_rise (suc number) ranges s t before
numbers_rise number (Some r ∷ ranges) s t (inl first) =
    let here : number ≡ s.number = ap (λ (s : NumberedRange). s.number) first.0 in
    let later = (IsNumbered-from_Has (suc number) ranges t first.1).number_is in
    omega arith
numbers_rise number (Some r ∷ ranges) s t (inr there) = numbers_rise (suc number) ranges s t there

-- ys is what a stable sort by start makes of the ranges with their numbers.
pub record AreSorted (ranges : List (Option TextRange)) (ys : List NumberedRange) : Type 0 where
  pub permutation : IsPermutation (numbered_from 0 ranges) ys
  pub sorted : IsSortedByKey (λ s. s.start) nat_cmp ys
  pub stable : IsStableByKey (λ s. s.start) nat_cmp (numbered_from 0 ranges) ys
  pub rise : All (λ range. IfSome range Rises) ranges

pub AreSorted-made : (ranges : List (Option TextRange)) (xs ys : List NumberedRange) → xs ≡ numbered_from 0 ranges → IsPermutation xs ys → IsSortedByKey (λ s. s.start) nat_cmp ys → IsStableByKey (λ s. s.start) nat_cmp xs ys → All (λ (range : Option TextRange). IfSome range Rises) ranges → AreSorted ranges ys
AreSorted-made ranges xs ys xs_are permutation sorted stable rise = record {
  permutation = subst (λ xs. IsPermutation xs ys) xs_are permutation;
  sorted = sorted;
  stable = subst (λ (xs : List NumberedRange). IsStableByKey (λ s. s.start) nat_cmp xs ys) xs_are stable;
  rise = rise;
}

fits_from : (a b : TextRange) → (a.end ≤ b.start) ⊎ ((b.end ≤ a.start) × (b.start < a.start)) → not (fits_pair a b) ≡ false
fits_from a b (inl first) = grind (arith, nat_tests)
fits_from a b (inr second) = grind (arith, nat_tests)

fits_to : (a b : TextRange) → not (fits_pair a b) ≡ false → (a.end ≤ b.start) ⊎ ((b.end ≤ a.start) × (b.start < a.start))
fits_to a b h = grind (arith, nat_tests)

module _ {ranges : List (Option TextRange)} {ys : List NumberedRange} (sorting : AreSorted ranges ys) where
  is_numbered : (s : NumberedRange) → Has s ys → IsNumbered 0 ranges s
  is_numbered s has = IsNumbered-from_Has 0 ranges s (Has-permutation ys (numbered_from 0 ranges) s (IsPermutation-sym (numbered_from 0 ranges) ys sorting.permutation) has)

  is_sorted : (k : ℕ) (r : TextRange) → k < length ranges → range_at ranges k ≡ Some r → Has (with_number (0 + k) r) ys
  is_sorted k r low is = Has-permutation (numbered_from 0 ranges) ys (with_number (0 + k) r) sorting.permutation (Has-numbered 0 ranges k r low is)

  -- Sorted they stand by start, those with one start by number.
  in_order : (s t : NumberedRange) → StandsBefore s t ys → (s.start < t.start) ⊎ ((s.start ≡ t.start) × (s.number < t.number))
  in_order s t before =
      let up : s.start ≤ t.start = before_from_AllPairs (λ s t. s.start ≤ t.start) ys s t (λ i j d low high. IsNonDecreasingBy-from_sort (λ (s : NumberedRange). s.start) ys sorting.sorted i j d (omega arith) high) before in
      elim (cases_lt s.start t.start) [
        | inl lower ↦ inl lower
        | inr upper ↦
            let same : s.start ≡ t.start = omega arith in
            inr (same, numbers_rise 0 ranges s t (before-stable (λ (s : NumberedRange). s.start) ys (numbered_from 0 ranges) s t (λ x. sym (sorting.stable x)) same before))
      ]

  rises_at : (s : NumberedRange) → IsNumbered 0 ranges s → s.start ≤ s.end
  rises_at s is =
      let here : IfSome (range_at ranges is.at) Rises = sorting.rise is.at None is.within in
      subst (λ (range : Option TextRange). IfSome range Rises) is.range_is here

  module _ (n : ℕ) where
    -- Two edits of which each is in the sorted ranges.
    pair_fits : FollowBelow n ys → (first second : ℕ) (a b : TextRange) → first < second → second < n → n ≤ length ranges → range_at ranges first ≡ Some a → range_at ranges second ≡ Some b → not (fits_pair a b) ≡ false
    pair_fits follow first second a b lower low within a_is b_is =
        let s : NumberedRange = with_number (0 + first) a in
        let t : NumberedRange = with_number (0 + second) b in
        let differ : s ≡ t → ⊥ = λ same. let numbers : 0 + first ≡ 0 + second = ap (λ (s : NumberedRange). s.number) same in absurd (omega arith) in
        elim (either_first ys s t (is_sorted first a (omega arith) a_is) (is_sorted second b (omega arith) b_is) differ) [
          | inl before ↦ fits_from a b (inl (before_from_AllPairs (λ (s t : NumberedRange). s.number < n → t.number < n → s.end ≤ t.start) ys s t follow before (omega arith) (omega arith)))
          | inr before ↦
              let ends : b.end ≤ a.start = before_from_AllPairs (λ (s t : NumberedRange). s.number < n → t.number < n → s.end ≤ t.start) ys t s follow before (omega arith) (omega arith) in
              fits_from a b (inr (
                ends,
                elim (in_order t s before) [
                  | inl lower_start ↦ lower_start
                  | inr tied ↦ absurd (let higher : 0 + second < 0 + first = tied.1 in omega arith)
                ],
              ))
        ]

    no_overlap : FollowBelow n ys → (first second : ℕ) (a b : Option TextRange) → first < second → second < n → n ≤ length ranges → range_at ranges first ≡ a → range_at ranges second ≡ b → overlaps a b ≡ false
    no_overlap follow first second None b lower low within a_is b_is = refl
    no_overlap follow first second (Some a) None lower low within a_is b_is = refl
    no_overlap follow first second (Some a) (Some b) lower low within a_is b_is = pair_fits follow first second a b lower low within a_is b_is

    pub FitBelow-from_follow : n ≤ length ranges → FollowBelow n ys → FitBelow ranges n
    FitBelow-from_follow within follow = λ first second lower low. no_overlap follow first second (range_at ranges first) (range_at ranges second) lower low within refl refl

    fits_at : FitBelow ranges n → (s t : NumberedRange) → IsNumbered 0 ranges s → IsNumbered 0 ranges t → s.number < t.number → t.number < n → (s.end ≤ t.start) ⊎ ((t.end ≤ s.start) × (t.start < s.start))
    fits_at fit s t s_at t_at lower low =
        let s_number = s_at.number_is in
        let t_number = t_at.number_is in
        let apart = fit s_at.at t_at.at (omega arith) (omega arith) in
        fits_to (span_of s) (span_of t) (subst (λ (range : Option TextRange). overlaps (Some (span_of s)) range ≡ false) t_at.range_is (subst (λ (range : Option TextRange). overlaps range (range_at ranges t_at.at) ≡ false) s_at.range_is apart))

    follows : FitBelow ranges n → (s t : NumberedRange) → StandsBefore s t ys → s.number < n → t.number < n → s.end ≤ t.start
    follows fit s t before s_low t_low =
        let s_at = is_numbered s (has_first ys s t before) in
        let t_at = is_numbered t (has_second ys s t before) in
        let t_rises = rises_at t t_at in
        elim (cases_order s.number t.number) [
          | inl same ↦
              let s_number = s_at.number_is in
              let t_number = t_at.number_is in
              let place : s_at.at ≡ t_at.at = omega arith in
              let spans : span_of s ≡ span_of t = same_Some (span_of s) (span_of t) (sym s_at.range_is ∙ ap (range_at ranges) place ∙ t_at.range_is) in
              let starts : s.start ≡ t.start = ap (λ (r : TextRange). r.start) spans in
              elim (in_order s t before) [
                | inl lower ↦ absurd (omega arith)
                | inr tied ↦ absurd (let lower = tied.1 in omega arith)
              ]
          | inr (inl lower) ↦ elim (fits_at fit s t s_at t_at lower t_low) [
            | inl first ↦ first
            | inr second ↦ elim (in_order s t before) [
              | inl lower_start ↦ absurd (let behind = second.1 in omega arith)
              | inr tied ↦ absurd (let behind = second.1 in let same = tied.0 in omega arith)
            ]
          ]
          | inr (inr higher) ↦ elim (fits_at fit t s t_at s_at higher s_low) [
            | inl first ↦ elim (in_order s t before) [
              | inl lower_start ↦ absurd (omega arith)
              | inr tied ↦ absurd (let lower = tied.1 in omega arith)
            ]
            | inr second ↦ second.0
          ]
        ]

    pub follow_from_FitBelow : FitBelow ranges n → FollowBelow n ys
    follow_from_FitBelow fit = AllPairs-from_before (λ (s t : NumberedRange). s.number < n → t.number < n → s.end ≤ t.start) ys (follows fit)

-- A walk over sorted ranges stands at `index`; those behind it with a number below n end at `reach` or before.
pub record IsScanned (n : ℕ) (sorted : List NumberedRange) (index reach : ℕ) : Type 0 where
  pub reached : (i : ℕ) (d : NumberedRange) → i < index → (get_or sorted i d).number < n → (get_or sorted i d).end ≤ reach
  pub pairs : (i j : ℕ) (d : NumberedRange) → i < j → j < index → (get_or sorted i d).number < n → (get_or sorted j d).number < n → (get_or sorted i d).end ≤ (get_or sorted j d).start
  pub ahead : FollowBelow n sorted → (j : ℕ) (d : NumberedRange) → index ≤ j → j < length sorted → (get_or sorted j d).number < n → reach ≤ (get_or sorted j d).start

module _ {n : ℕ} {sorted : List NumberedRange} where
  module _ {index reach : ℕ} (scanned : IsScanned n sorted index reach) where
    module _ (e : NumberedRange) (within : index < length sorted) where
      abbrev x : NumberedRange
      x = get_or sorted index e

      read_at : (i : ℕ) (d : NumberedRange) → i ≡ index → get_or sorted i d ≡ x
      read_at i d here = ap (λ i. get_or sorted i d) here ∙ get_or_default sorted index d e within

      -- One that isn't below n is passed over.
      pub IsScanned-skip : n ≤ x.number → IsScanned n sorted (index + 1) reach
      IsScanned-skip above =
          let not_here : (i : ℕ) (d : NumberedRange) → i ≡ index → (get_or sorted i d).number < n → ⊥ = λ i d here below. let number : (get_or sorted i d).number ≡ x.number = ap (λ (s : NumberedRange). s.number) (read_at i d here) in absurd (omega arith) in
          record {
            reached = λ i d low below. elim (cases_lt i index) [
              | inl lower ↦ scanned.reached i d lower below
              | inr here ↦ absurd (not_here i d (omega arith) below)
            ];
            pairs = λ i j d before low i_below j_below. elim (cases_lt j index) [
              | inl lower ↦ scanned.pairs i j d before lower i_below j_below
              | inr here ↦ absurd (not_here j d (omega arith) j_below)
            ];
            ahead = λ follow j d above within below. scanned.ahead follow j d (omega arith) within below;
          }

      start_at : (j : ℕ) (d : NumberedRange) → j ≡ index → (get_or sorted j d).start ≡ x.start
      start_at j d here = ap (λ (s : NumberedRange). s.start) (read_at j d here)

      end_at : (j : ℕ) (d : NumberedRange) → j ≡ index → (get_or sorted j d).end ≡ x.end
      end_at j d here = ap (λ (s : NumberedRange). s.end) (read_at j d here)

      number_at : (j : ℕ) (d : NumberedRange) → j ≡ index → (get_or sorted j d).number ≡ x.number
      number_at j d here = ap (λ (s : NumberedRange). s.number) (read_at j d here)

      -- One that is starts behind all ends so far.
      pub IsScanned-more : x.number < n → reach ≤ x.start → IsScanned n sorted (index + 1) (max reach x.end)
      IsScanned-more below behind = record {
        reached = λ i d low i_below. elim (cases_lt i index) [
          | inl lower ↦ let far = scanned.reached i d lower i_below in omega arith
          | inr here ↦ let end = end_at i d (omega arith) in omega arith
        ];
        pairs = λ i j d before low i_below j_below. elim (cases_lt j index) [
          | inl lower ↦ scanned.pairs i j d before lower i_below j_below
          | inr here ↦ let far = scanned.reached i d (omega arith) i_below in let start = start_at j d (omega arith) in omega arith
        ];
        ahead = λ follow j d above high j_below.
            let far = scanned.ahead follow j d (omega arith) high j_below in
            let end = end_at index d refl in
            let number = number_at index d refl in
            let ends = follow index j d (omega arith) high (omega arith) j_below in
            omega arith;
      }
