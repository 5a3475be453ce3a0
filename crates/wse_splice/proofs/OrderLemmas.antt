-- What the order of splices changes, and what it doesn't.
use Rattle.std.proofs.Common.{◌≡◌, ℕ, ◌+◌, ◌<◌, ◌≤◌, suc, zero, not, ◌&&◌, List, [], length, get_or, eqb, inl, inr, subst, sym, ap, ◌∙◌, arith}
use Rattle.std.specs.List.{All, AllPairs, flat_map}
use Rattle.std.specs.List.Sorted.{IsPermutation, IsStableByKey, ties}
use Rattle.std.specs.Ordering.{is_lt, nat_cmp}
use Rattle.std.proofs.lemmas.Bool.{cases_lt}
use Rattle.std.proofs.lemmas.Bool.Decides.{nat_tests}
use Rattle.std.proofs.lemmas.List.Elements.{filter_agree}
use Rattle.std.proofs.lemmas.List.Sorted.{list_any-IsPermutation}
use Rattle.wse_splice.specs.declared.splice.Splice.{Splice}
use Rattle.wse_splice.specs.Splice.{Fits, put_in_at, spliced}
use Rattle.wse_splice.proofs.PlaceLemmas.{rebuilt_same}

tied_at : (a k : ℕ) → (not (is_lt (nat_cmp k a)) && not (is_lt (nat_cmp a k))) ≡ eqb a k
tied_at a k = grind (arith, nat_tests)

-- The splices of one start, as a sort that keeps their order leaves them.
put_in_at_stable : (xs ys : List Splice) (k : ℕ) → IsStableByKey (λ s. s.start) nat_cmp xs ys → put_in_at ys k ≡ put_in_at xs k
put_in_at_stable xs ys k stable =
    let here : Splice = record { start = k; end = k; text = [] } in
    let starts_here = λ (s : Splice). eqb s.start k in
    let is_tied = ties (λ (s t : Splice). is_lt (nat_cmp s.start t.start)) here in
    ap (flat_map (λ (s : Splice). s.text))
    (sym (filter_agree is_tied starts_here (λ s. tied_at s.start k) ys) ∙ stable here ∙ filter_agree is_tied starts_here (λ s. tied_at s.start k) xs)

-- A stable sort by start changes nothing of the text after the splices.
pub spliced_stable : (old : List ℕ) (xs ys : List Splice) → IsPermutation xs ys → IsStableByKey (λ s. s.start) nat_cmp xs ys → spliced old ys ≡ spliced old xs
spliced_stable old xs ys same stable =
    rebuilt_same old _ _ _ _ (λ k low. put_in_at_stable xs ys k stable) (λ k low. sym (list_any-IsPermutation _ xs ys same))

-- Each splice ends before each later one starts.
pub AllPairs-from_Fits : (ss : List Splice) (n : ℕ) → Fits ss n → AllPairs (λ s t. s.end ≤ t.start) ss
AllPairs-from_Fits ss n fits = λ i j d before within. later i j d before within where
  later : (i j : ℕ) (d : Splice) → i < j → j < length ss → (get_or ss i d).end ≤ (get_or ss j d).start
  later i zero d before within = absurd (omega arith)
  later i (suc j) d before within =
      let next : (get_or ss j d).end ≤ (get_or ss (suc j) d).start = subst (λ k. (get_or ss j d).end ≤ (get_or ss k d).start) {x = j + 1} (omega arith) (fits.ordered j d (omega arith)) in
      elim (cases_lt i j) [
        | inl lower ↦ let to_j = later i j d lower (omega arith) in let rises = (fits.within j d (omega arith)).0 in omega arith
        | inr same ↦ subst (λ k. (get_or ss k d).end ≤ (get_or ss (suc j) d).start) {x = j} {y = i} (omega arith) next
      ]

pub Fits-from_AllPairs : (ss : List Splice) (n : ℕ) → All (λ s. (s.start ≤ s.end) × (s.end ≤ n)) ss → AllPairs (λ s t. s.end ≤ t.start) ss → Fits ss n
Fits-from_AllPairs ss n within pairs = record { within = within; ordered = λ k d low. pairs k (k + 1) d (omega arith) low }
