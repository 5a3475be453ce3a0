-- Filters, maps and look-ups over one list.
use Rattle.std.proofs.Common.{◌≡◌, Bool, true, false, ◌&&◌, ◌||◌, not, cond, List, [], ◌∷◌, ◌++◌, map, Option, Some, refl, sym, ap, subst, ◌∙◌}
use Rattle.std.specs.Prelude.{filter, find, option_map, is_some}
use Rattle.std.specs.List.{list_any, list_all, last_or}
use Rattle.std.proofs.lemmas.Bool.{or_parts, and_from, not-true}
use Rattle.std.proofs.lemmas.Option.{none-some, same_Some}
use Rattle.wse_path.proofs.EntryLemmas.{and_parts}
use Rattle.wse_element.specs.Linked.{come_first}

module _ {X Y : Type 0} (f : X → Y) (test : Y → Bool) (same : X → Bool) (answers : (x : X) → test (f x) ≡ same x) where
  -- a filter behind a map that keeps what the test answers
  pub filter-map : (xs : List X) → filter test (map f xs) ≡ map f (filter same xs)
  filter-map [] = refl
  filter-map (x ∷ xs) =
      ap (λ b. cond b (f x ∷ filter test (map f xs)) (filter test (map f xs))) (answers x)
      ∙ elim (same x) as (λ b. cond b (f x ∷ filter test (map f xs)) (filter test (map f xs)) ≡ map f (cond b (x ∷ filter same xs) (filter same xs))) [
        | true ↦ ap (λ ys. f x ∷ ys) (filter-map xs)
        | false ↦ filter-map xs
      ]

  pub find-map : (xs : List X) → find test (map f xs) ≡ option_map f (find same xs)
  find-map [] = refl
  find-map (x ∷ xs) =
      ap (λ b. cond b (Some (f x)) (find test (map f xs))) (answers x)
      ∙ elim (same x) as (λ b. cond b (Some (f x)) (find test (map f xs)) ≡ option_map f (cond b (Some x) (find same xs))) [
        | true ↦ refl
        | false ↦ find-map xs
      ]

module _ {X : Type 0} where
  pub filter-filter : (p q : X → Bool) (xs : List X) → filter p (filter q xs) ≡ filter (λ x. p x && q x) xs
  filter-filter p q [] = refl
  filter-filter p q (x ∷ xs) =
      let both = filter (λ (y : X). p y && q y) xs in
      let rest = filter-filter p q xs in
      elim (q x) as (λ b. filter p (cond b (x ∷ filter q xs) (filter q xs)) ≡ cond (p x && b) (x ∷ both) both) [
        | true ↦ elim (p x) as (λ a. cond a (x ∷ filter p (filter q xs)) (filter p (filter q xs)) ≡ cond (a && true) (x ∷ both) both) [ true ↦ ap (λ ys. x ∷ ys) rest | false ↦ rest ]
        | false ↦ elim (p x) as (λ a. filter p (filter q xs) ≡ cond (a && false) (x ∷ both) both) [ true ↦ rest | false ↦ rest ]
      ]

  -- all pass
  pub filter_all : (p : X → Bool) (xs : List X) → list_all p xs ≡ true → filter p xs ≡ xs
  filter_all p [] h = refl
  filter_all p (x ∷ xs) h =
      let parts = and_parts (p x) (list_all p xs) h in
      ap (λ b. cond b (x ∷ filter p xs) (filter p xs)) parts.0 ∙ ap (λ ys. x ∷ ys) (filter_all p xs parts.1)

  -- none passes
  pub filter_none : (p : X → Bool) (xs : List X) → list_any p xs ≡ false → filter p xs ≡ []
  filter_none p [] h = refl
  filter_none p (x ∷ xs) h =
      let parts = or_parts (p x) (list_any p xs) h in
      ap (λ b. cond b (x ∷ filter p xs) (filter p xs)) parts.0 ∙ filter_none p xs parts.1

  pub filter_others : (p : X → Bool) (xs : List X) → list_any p xs ≡ false → filter (λ x. not (p x)) xs ≡ xs
  filter_others p [] h = refl
  filter_others p (x ∷ xs) h =
      let parts = or_parts (p x) (list_any p xs) h in
      let others = filter (λ (y : X). not (p y)) xs in
      ap (λ b. cond (not b) (x ∷ others) others) parts.0 ∙ ap (λ ys. x ∷ ys) (filter_others p xs parts.1)

  -- what passes each test that the first implies
  pub list_all_weaker : (p q : X → Bool) → ((x : X) → p x ≡ true → q x ≡ true) → (xs : List X) → list_all p xs ≡ true → list_all q xs ≡ true
  list_all_weaker p q so [] h = refl
  list_all_weaker p q so (x ∷ xs) h =
      let parts = and_parts (p x) (list_all p xs) h in
      and_from (q x) (list_all q xs) (so x parts.0) (list_all_weaker p q so xs parts.1)

  pub list_all-append : (p : X → Bool) (xs ys : List X) → list_all p xs ≡ true → list_all p ys ≡ true → list_all p (xs ++ ys) ≡ true
  list_all-append p [] ys h k = k
  list_all-append p (x ∷ xs) ys h k =
      let parts = and_parts (p x) (list_all p xs) h in
      and_from (p x) (list_all p (xs ++ ys)) parts.0 (list_all-append p xs ys parts.1 k)

  pub list_all-filter : (p q : X → Bool) (xs : List X) → list_all p xs ≡ true → list_all p (filter q xs) ≡ true
  list_all-filter p q [] h = refl
  list_all-filter p q (x ∷ xs) h =
      let parts = and_parts (p x) (list_all p xs) h in
      let rest = list_all-filter p q xs parts.1 in
      elim (q x) as (λ b. list_all p (cond b (x ∷ filter q xs) (filter q xs)) ≡ true) [ true ↦ and_from (p x) (list_all p (filter q xs)) parts.0 rest | false ↦ rest ]

  pub filter_passes : (p : X → Bool) (xs : List X) → list_all p (filter p xs) ≡ true
  filter_passes p [] = refl
  filter_passes p (x ∷ xs) =
      elim (p x) as (λ b. p x ≡ b → list_all p (cond b (x ∷ filter p xs) (filter p xs)) ≡ true) [
        | true ↦ λ h. and_from (p x) (list_all p (filter p xs)) h (filter_passes p xs)
        | false ↦ λ _. filter_passes p xs
      ] refl

  pub list_any-append : (p : X → Bool) (xs ys : List X) → list_any p xs ≡ false → list_any p ys ≡ false → list_any p (xs ++ ys) ≡ false
  list_any-append p [] ys h k = k
  list_any-append p (x ∷ xs) ys h k =
      let parts = or_parts (p x) (list_any p xs) h in
      ap (λ b. b || list_any p (xs ++ ys)) parts.0 ∙ list_any-append p xs ys parts.1 k

  pub any_from_all : (p : X → Bool) (xs : List X) → list_all (λ x. not (p x)) xs ≡ true → list_any p xs ≡ false
  any_from_all p [] h = refl
  any_from_all p (x ∷ xs) h =
      let parts = and_parts (not (p x)) (list_all (λ (y : X). not (p y)) xs) h in
      ap (λ b. b || list_any p xs) (not-true (p x) parts.0) ∙ any_from_all p xs parts.1

  -- what is found passes, as do all
  pub find_passes : (p : X → Bool) (xs : List X) (x : X) → find p xs ≡ Some x → p x ≡ true
  find_passes p [] x h = absurd (none-some x h)
  find_passes p (y ∷ ys) x h =
      elim (p y) as (λ b. p y ≡ b → cond b (Some y) (find p ys) ≡ Some x → p x ≡ true) [
        | true ↦ λ e k. subst (λ z. p z ≡ true) (same_Some y x k) e
        | false ↦ λ _ k. find_passes p ys x k
      ] refl h

  pub find_among : (p q : X → Bool) (xs : List X) (x : X) → find p xs ≡ Some x → list_all q xs ≡ true → q x ≡ true
  find_among p q [] x h all = absurd (none-some x h)
  find_among p q (y ∷ ys) x h all =
      let parts = and_parts (q y) (list_all q ys) all in
      elim (p y) as (λ b. cond b (Some y) (find p ys) ≡ Some x → q x ≡ true) [
        | true ↦ λ k. subst (λ z. q z ≡ true) (same_Some y x k) parts.0
        | false ↦ λ k. find_among p q ys x k parts.1
      ] h

  pub find-any : (p : X → Bool) (xs : List X) → is_some (find p xs) ≡ list_any p xs
  find-any p [] = refl
  find-any p (x ∷ xs) = elim (p x) as (λ b. is_some (cond b (Some x) (find p xs)) ≡ (b || list_any p xs)) [ true ↦ refl | false ↦ find-any p xs ]

  -- those that come first, and the others
  pub come_first_parts : (p : X → Bool) (xs : List X) → come_first p xs ≡ true → xs ≡ filter p xs ++ filter (λ x. not (p x)) xs
  come_first_parts p [] h = refl
  come_first_parts p (x ∷ xs) h =
      let others = filter (λ (y : X). not (p y)) xs in
      elim (p x) as (λ b. cond b (come_first p xs) (not (list_any p xs)) ≡ true → x ∷ xs ≡ cond b (x ∷ filter p xs) (filter p xs) ++ cond (not b) (x ∷ others) others) [
        | true ↦ λ k. ap (λ ys. x ∷ ys) (come_first_parts p xs k)
        | false ↦ λ k.
            let none = not-true (list_any p xs) k in
            ap (λ ys. x ∷ ys) (sym (filter_others p xs none)) ∙ ap (λ ys. ys ++ x ∷ others) (sym (filter_none p xs none))
      ] h

  come_first_none : (p : X → Bool) (xs : List X) → list_any p xs ≡ false → come_first p xs ≡ true
  come_first_none p [] h = refl
  come_first_none p (x ∷ xs) h =
      let parts = or_parts (p x) (list_any p xs) h in
      ap (λ b. cond b (come_first p xs) (not (list_any p xs))) parts.0 ∙ ap not parts.1

  pub come_first-append : (p : X → Bool) (xs ys : List X) → list_all p xs ≡ true → list_any p ys ≡ false → come_first p (xs ++ ys) ≡ true
  come_first-append p [] ys h k = come_first_none p ys k
  come_first-append p (x ∷ xs) ys h k =
      let parts = and_parts (p x) (list_all p xs) h in
      ap (λ b. cond b (come_first p (xs ++ ys)) (not (list_any p (xs ++ ys)))) parts.0 ∙ come_first-append p xs ys parts.1 k

  -- one more that doesn't pass
  pub come_first_push : (p : X → Bool) (xs : List X) (x : X) → come_first p xs ≡ true → p x ≡ false → come_first p (xs ++ x ∷ []) ≡ true
  come_first_push p [] x h k = ap (λ b. cond b true true) k
  come_first_push p (y ∷ ys) x h k =
      elim (p y) as (λ b. cond b (come_first p ys) (not (list_any p ys)) ≡ true → cond b (come_first p (ys ++ x ∷ [])) (not (list_any p (ys ++ x ∷ []))) ≡ true) [
        | true ↦ λ e. come_first_push p ys x e k
        | false ↦ λ e. ap not (list_any-append p ys (x ∷ []) (not-true (list_any p ys) e) (ap (λ b. b || false) k))
      ] h

  pub last_or_push : (o : Option X) (xs : List X) (x : X) → last_or o (xs ++ x ∷ []) ≡ Some x
  last_or_push o [] x = refl
  last_or_push o (y ∷ ys) x = last_or_push (Some y) ys x
