-- Look-ups over one list.
use Rattle.std.proofs.Common.{◌≡◌, Bool, true, false, cond, List, [], ◌∷◌, ◌++◌, reverse, Option, Some, None, refl, sym, ap, ◌∙◌}
use Rattle.std.specs.Prelude.{filter, find, slice_get}
use Rattle.std.specs.List.{last_or}
use Rattle.std.proofs.lemmas.List.{reverse-append}

module _ {X : Type 0} (p : X → Bool) where
  -- the first that passes
  pub first_of : (xs : List X) → slice_get (filter p xs) 0 ≡ find p xs
  first_of [] = refl
  first_of (x ∷ xs) = elim (p x) as (λ b. slice_get (cond b (x ∷ filter p xs) (filter p xs)) 0 ≡ cond b (Some x) (find p xs)) [ true ↦ refl | false ↦ first_of xs ]

  -- the first, or else the second
  abbrev either : Option X → Option X → Option X
  either (Some x) o = Some x
  either None o = o

  find_behind : (xs ys : List X) → find p (xs ++ ys) ≡ either (find p xs) (find p ys)
  find_behind [] ys = refl
  find_behind (x ∷ xs) ys = elim (p x) as (λ b. cond b (Some x) (find p (xs ++ ys)) ≡ either (cond b (Some x) (find p xs)) (find p ys)) [ true ↦ refl | false ↦ find_behind xs ys ]

  nested : (a b c : Option X) → either a (either b c) ≡ either (either a b) c
  nested None b c = refl
  nested (Some x) b c = refl

  last_from : (o : Option X) (xs : List X) → last_or o (filter p xs) ≡ either (find p (reverse xs)) o
  last_from o [] = refl
  last_from o (x ∷ xs) =
      let front = find p (reverse xs) in
      elim (p x) as (λ b. last_or o (cond b (x ∷ filter p xs) (filter p xs)) ≡ either front (either (cond b (Some x) None) o)) [ true ↦ last_from (Some x) xs | false ↦ last_from o xs ]
      ∙ nested front (cond (p x) (Some x) None) o
      ∙ ap (λ a. either a o) (sym (find_behind (reverse xs) (x ∷ [])))
      ∙ ap (λ ys. either (find p ys) o) (sym (reverse-append (x ∷ []) xs))

  or_none : (a : Option X) → either a None ≡ a
  or_none None = refl
  or_none (Some x) = refl

  -- the last that passes
  pub last_of : (xs : List X) → last_or None (filter p xs) ≡ find p (reverse xs)
  last_of xs = last_from None xs ∙ or_none (find p (reverse xs))
