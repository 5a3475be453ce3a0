-- The first answer of a search.
use Rattle.std.proofs.Common.{◌≡◌, ℕ, ◌+◌, ◌<◌, ◌≤◌, suc, zero, List, [], ◌∷◌, ◌++◌, map, Option, Some, None, inl, inr, refl, sym, ap, ◌∙◌, arith}
use Rattle.std.specs.List.{flat_map, range_with_len}
use Rattle.std.specs.Option.{option_or}
use Rattle.std.proofs.lemmas.Bool.{cases_lt}
use Rattle.wse_edits.specs.Refusal.{find_map}

option_or-assoc : {Y : Type 0} (o p q : Option Y) → option_or (option_or o p) q ≡ option_or o (option_or p q)
option_or-assoc None p q = refl
option_or-assoc (Some y) p q = refl

find_map-append : {X Y : Type 0} (f : X → Option Y) (xs ys : List X) → find_map f (xs ++ ys) ≡ option_or (find_map f xs) (find_map f ys)
find_map-append f [] ys = refl
find_map-append f (x ∷ xs) ys = ap (option_or (f x)) (find_map-append f xs ys) ∙ sym (option_or-assoc (f x) (find_map f xs) (find_map f ys))

pub find_map-flat_map : {X Y Z : Type 0} (f : Y → Option Z) (g : X → List Y) (xs : List X) → find_map f (flat_map g xs) ≡ find_map (λ x. find_map f (g x)) xs
find_map-flat_map f g [] = refl
find_map-flat_map f g (x ∷ xs) = find_map-append f (g x) (flat_map g xs) ∙ ap (option_or (find_map f (g x))) (find_map-flat_map f g xs)

pub find_map-map : {X Y Z : Type 0} (f : Y → Option Z) (g : X → Y) (xs : List X) → find_map f (map g xs) ≡ find_map (λ x. f (g x)) xs
find_map-map f g [] = refl
find_map-map f g (x ∷ xs) = ap (option_or (f (g x))) (find_map-map f g xs)

pub find_map-same : {X Y : Type 0} (f g : X → Option Y) → ((x : X) → f x ≡ g x) → (xs : List X) → find_map f xs ≡ find_map g xs
find_map-same f g same [] = refl
find_map-same f g same (x ∷ xs) = λ i. option_or (same x i) (find_map-same f g same xs i)

neither : {Y : Type 0} (o p : Option Y) → option_or o p ≡ None → (o ≡ None) × (p ≡ None)
neither None p h = (refl, h)
neither (Some y) p h = cc

module _ {Y : Type 0} (f : ℕ → Option Y) where
  -- A search that found nothing found nothing at any of the numbers.
  pub none_in_range : (a n k : ℕ) → find_map f (range_with_len a n) ≡ None → a ≤ k → k < a + n → f k ≡ None
  none_in_range a zero k none low high = absurd (omega arith)
  none_in_range a (suc n) k none low high =
      let parts = neither (f a) (find_map f (range_with_len (a + 1) n)) none in
      elim (cases_lt a k) [
        | inl behind ↦ none_in_range (a + 1) n k parts.1 (omega arith) (omega arith)
        | inr here ↦ ap f {x = k} {y = a} (omega arith) ∙ parts.0
      ]

  pub range_none : (a n : ℕ) → ((k : ℕ) → a ≤ k → k < a + n → f k ≡ None) → find_map f (range_with_len a n) ≡ None
  range_none a zero none = refl
  range_none a (suc n) none =
      let here : f a ≡ None = none a (omega arith) (omega arith) in
      let behind : find_map f (range_with_len (a + 1) n) ≡ None = range_none (a + 1) n (λ k low high. none k (omega arith) (omega arith)) in
      λ i. option_or (here i) (behind i)

  pub range_first : (a n k : ℕ) (y : Y) → a ≤ k → k < a + n → ((j : ℕ) → a ≤ j → j < k → f j ≡ None) → f k ≡ Some y → find_map f (range_with_len a n) ≡ Some y
  range_first a zero k y low high none found = absurd (omega arith)
  range_first a (suc n) k y low high none found = elim (cases_lt a k) [
    | inl behind ↦ ap (λ o. option_or o (find_map f (range_with_len (a + 1) n))) (none a (omega arith) behind) ∙ range_first (a + 1) n k y (omega arith) (omega arith) (λ j above below. none j (omega arith) below) found
    | inr here ↦ ap (λ o. option_or o (find_map f (range_with_len (a + 1) n))) (ap f {x = a} {y = k} (omega arith) ∙ found)
  ]
