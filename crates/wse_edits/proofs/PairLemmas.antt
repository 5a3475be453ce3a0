-- Which items of a list stand before which, and what a stable sort keeps of that.
use Rattle.std.proofs.Common.{◌≡◌, ℕ, ◌<◌, suc, zero, Bool, true, false, not, cond, ◌&&◌, List, [], ◌∷◌, length, filter, get_or, Option, Some, None, ◌⊎◌, inl, inr, subst, refl, sym, ap, ◌∙◌, arith}
use Rattle.std.specs.List.{AllPairs, Contains, cons_option, filter_map}
use Rattle.std.specs.List.Sorted.{IsPermutation, IsStableByKey, ties}
use Rattle.std.specs.Ordering.{is_lt, nat_cmp}
use Rattle.std.proofs.lemmas.Bool.Decides.{nat_tests}
use Rattle.std.proofs.lemmas.List.Sorted.{Contains-permutation}

abbrev pub Has : {X : Type 0} → X → List X → Type 0
Has t [] = ⊥
Has t (x ∷ xs) = (x ≡ t) ⊎ Has t xs

-- s stands before t in the list.
abbrev pub StandsBefore : {X : Type 0} → X → X → List X → Type 0
StandsBefore s t [] = ⊥
StandsBefore s t (x ∷ xs) = ((x ≡ s) × Has t xs) ⊎ StandsBefore s t xs

module _ {X : Type 0} where
  has_at : (xs : List X) (i : ℕ) (d : X) → i < length xs → Has (get_or xs i d) xs
  has_at [] i d low = absurd (omega arith)
  has_at (x ∷ xs) zero d low = inl refl
  has_at (x ∷ xs) (suc i) d low = inr (has_at xs i d (omega arith))

  pub Contains-from_Has : (xs : List X) (t : X) → Has t xs → Contains xs t
  Contains-from_Has [] t none = absurd none
  Contains-from_Has (x ∷ xs) t (inl is) = (0, omega arith, is)
  Contains-from_Has (x ∷ xs) t (inr there) =
      let at = Contains-from_Has xs t there in
      let low : at.0 < length xs = at.1 in
      (suc at.0, omega arith, at.2)

  pub Has-permutation : (xs ys : List X) (t : X) → IsPermutation xs ys → Has t xs → Has t ys
  Has-permutation xs ys t same has =
      let at = Contains-permutation xs ys t same (Contains-from_Has xs t has) in
      subst (λ s. Has s ys) at.2 (has_at ys at.0 t at.1)

  before_at : (xs : List X) (i j : ℕ) (d : X) → i < j → j < length xs → StandsBefore (get_or xs i d) (get_or xs j d) xs
  before_at [] i j d before low = absurd (omega arith)
  before_at (x ∷ xs) i zero d before low = absurd (omega arith)
  before_at (x ∷ xs) zero (suc j) d before low = inl (refl, has_at xs j d (omega arith))
  before_at (x ∷ xs) (suc i) (suc j) d before low = inr (before_at xs i j d (omega arith) (omega arith))

  pub AllPairs-from_before : (R : X → X → Type 0) (xs : List X) → ((s t : X) → StandsBefore s t xs → R s t) → AllPairs R xs
  AllPairs-from_before R xs each = λ i j d before low. each _ _ (before_at xs i j d before low)

  pub before_from_AllPairs : (R : X → X → Type 0) (xs : List X) (s t : X) → AllPairs R xs → StandsBefore s t xs → R s t
  before_from_AllPairs R [] s t pairs none = absurd none
  before_from_AllPairs R (x ∷ xs) s t pairs (inl first) =
      let at = Contains-from_Has xs t first.1 in
      let low : at.0 < length xs = at.1 in
      subst (λ y. R s y) at.2 (subst (λ y. R y (get_or xs at.0 t)) first.0 (pairs 0 (suc at.0) t (omega arith) (omega arith)))
  before_from_AllPairs R (x ∷ xs) s t pairs (inr there) =
      before_from_AllPairs R xs s t (λ i j d before low. pairs (suc i) (suc j) d (omega arith) (omega arith)) there

  pub has_first : (xs : List X) (s t : X) → StandsBefore s t xs → Has s xs
  has_first [] s t none = absurd none
  has_first (x ∷ xs) s t (inl first) = inl first.0
  has_first (x ∷ xs) s t (inr there) = inr (has_first xs s t there)

  pub has_second : (xs : List X) (s t : X) → StandsBefore s t xs → Has t xs
  has_second [] s t none = absurd none
  has_second (x ∷ xs) s t (inl first) = inr first.1
  has_second (x ∷ xs) s t (inr there) = inr (has_second xs s t there)

  -- Of two different items one stands before the other.
  pub either_first : (xs : List X) (s t : X) → Has s xs → Has t xs → (s ≡ t → ⊥) → StandsBefore s t xs ⊎ StandsBefore t s xs
  either_first [] s t none there differ = absurd none
  either_first (x ∷ xs) s t (inl is) (inl is_t) differ = absurd (differ (sym is ∙ is_t))
  either_first (x ∷ xs) s t (inl is) (inr there) differ = inl (inl (is, there))
  either_first (x ∷ xs) s t (inr there) (inl is) differ = inr (inl (is, there))
  either_first (x ∷ xs) s t (inr s_there) (inr t_there) differ = elim (either_first xs s t s_there t_there differ) [
    | inl first ↦ inl (inr first)
    | inr first ↦ inr (inr first)
  ]

module _ {X Y : Type 0} (h : X → Option Y) where
  has_behind : (o : Option Y) (t : Y) (ys : List Y) → Has t ys → Has t (cons_option o ys)
  has_behind None t ys there = there
  has_behind (Some y) t ys there = inr there

  before_behind : (o : Option Y) (s t : Y) (ys : List Y) → StandsBefore s t ys → StandsBefore s t (cons_option o ys)
  before_behind None s t ys there = there
  before_behind (Some y) s t ys there = inr there

  Has-filter_map : (xs : List X) (x : X) (t : Y) → h x ≡ Some t → Has x xs → Has t (filter_map h xs)
  Has-filter_map [] x t gives none = absurd none
  Has-filter_map (x' ∷ xs) x t gives (inl is) = subst (λ o. Has t (cons_option o (filter_map h xs))) (sym (ap h is ∙ gives)) (inl refl)
  Has-filter_map (x' ∷ xs) x t gives (inr there) = has_behind (h x') t (filter_map h xs) (Has-filter_map xs x t gives there)

  pub before-filter_map : (xs : List X) (x y : X) (s t : Y) → h x ≡ Some s → h y ≡ Some t → StandsBefore x y xs → StandsBefore s t (filter_map h xs)
  before-filter_map [] x y s t gives_s gives_t none = absurd none
  before-filter_map (x' ∷ xs) x y s t gives_s gives_t (inl first) =
      subst (λ o. StandsBefore s t (cons_option o (filter_map h xs))) (sym (ap h first.0 ∙ gives_s)) (inl (refl, Has-filter_map xs y t gives_t first.1))
  before-filter_map (x' ∷ xs) x y s t gives_s gives_t (inr there) =
      before_behind (h x') s t (filter_map h xs) (before-filter_map xs x y s t gives_s gives_t there)

  has_here : {P : Type 0} (x : X) (o : Option Y) (t : Y) (ys : List Y) → h x ≡ o → Has t (cons_option o ys) → (h x ≡ Some t → P) → (Has t ys → P) → P
  has_here x None t ys is has here there = there has
  has_here x (Some y) t ys is (inl same) here there = here (is ∙ ap Some same)
  has_here x (Some y) t ys is (inr has) here there = there has

  Has-from_filter_map : {P : Type 0} (xs : List X) (t : Y) → Has t (filter_map h xs) → ((y : X) → Has y xs → h y ≡ Some t → P) → P
  Has-from_filter_map [] t none found = absurd none
  Has-from_filter_map (x ∷ xs) t has found =
      has_here x (h x) t (filter_map h xs) refl has (λ gives. found x (inl refl) gives) (λ has. Has-from_filter_map xs t has (λ y there. found y (inr there)))

  before_here : {P : Type 0} (x : X) (o : Option Y) (s t : Y) (ys : List Y) → h x ≡ o → StandsBefore s t (cons_option o ys) → (h x ≡ Some s → Has t ys → P) → (StandsBefore s t ys → P) → P
  before_here x None s t ys is before here there = there before
  before_here x (Some y) s t ys is (inl first) here there = here (is ∙ ap Some first.0) first.1
  before_here x (Some y) s t ys is (inr before) here there = there before

  pub before_from_filter_map : {P : Type 0} (xs : List X) (s t : Y) → StandsBefore s t (filter_map h xs) → ((x y : X) → StandsBefore x y xs → h x ≡ Some s → h y ≡ Some t → P) → P
  before_from_filter_map [] s t none found = absurd none
  before_from_filter_map (x ∷ xs) s t before found =
      before_here x (h x) s t (filter_map h xs) refl before
      (λ gives has. Has-from_filter_map xs t has (λ y there. found x y (inl (refl, there)) gives))
      (λ before. before_from_filter_map xs s t before (λ x y there. found x y (inr there)))

module _ {X : Type 0} (key : X → ℕ) where
  -- The item, if it ties with s.
  abbrev if_tied : X → X → Option X
  if_tied s x = cond (ties (λ x y. is_lt (nat_cmp (key x) (key y))) s x) (Some x) None

  filter-tied : (s : X) (xs : List X) → filter (ties (λ x y. is_lt (nat_cmp (key x) (key y))) s) xs ≡ filter_map (if_tied s) xs
  filter-tied s [] = refl
  filter-tied s (x ∷ xs) = at (ties (λ x y. is_lt (nat_cmp (key x) (key y))) s x) (filter-tied s xs)
    where
      at : (b : Bool) {ys zs : List X} → ys ≡ zs → cond b (x ∷ ys) ys ≡ cons_option (cond b (Some x) None) zs
      at true same = ap (λ zs. x ∷ zs) same
      at false same = same

  tied : (a b : ℕ) → a ≡ b → (not (is_lt (nat_cmp a b)) && not (is_lt (nat_cmp b a))) ≡ true
  tied a b same = grind (arith, nat_tests)

  itself : (b : Bool) (x y : X) → cond b (Some x) None ≡ Some y → x ≡ y
  itself true x y same = cc
  itself false x y same = cc

  -- A stable sort keeps the order of items that tie.
  pub before-stable : (xs ys : List X) (s t : X) → IsStableByKey key nat_cmp xs ys → key s ≡ key t → StandsBefore s t xs → StandsBefore s t ys
  before-stable xs ys s t stable same before =
      let s_tied : if_tied s s ≡ Some s = ap (λ b. cond b (Some s) None) (tied (key s) (key s) refl) in
      let t_tied : if_tied s t ≡ Some t = ap (λ b. cond b (Some t) None) (tied (key s) (key t) same) in
      let of_xs : StandsBefore s t (filter_map (if_tied s) xs) = before-filter_map (if_tied s) xs s t s t s_tied t_tied before in
      let of_ys : StandsBefore s t (filter_map (if_tied s) ys) = subst (StandsBefore s t) (sym (filter-tied s xs) ∙ sym (stable s) ∙ filter-tied s ys) of_xs in
      before_from_filter_map (if_tied s) ys s t of_ys (λ x y before x_is y_is. subst (λ y. StandsBefore s y ys) (itself _ y t y_is) (subst (λ x. StandsBefore x y ys) (itself _ x s x_is) before))
