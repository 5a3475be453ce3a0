-- The first and the last that pass a test.
use Rattle.std.proofs.Common.{◌≡◌, Bool, true, false, cond, List, [], ◌∷◌, ◌++◌, reverse, Option, Some, None, refl, sym, ap, ◌∙◌}
use Rattle.std.specs.Prelude.{filter, find, slice_get}
use Rattle.std.specs.List.{last_or}
use Rattle.std.proofs.lemmas.List.{reverse-append}

module _ {X : Type 0} (test : X → Bool) where
  -- the first
  pub first_that_passes : (xs : List X) → slice_get (filter test xs) 0 ≡ find test xs
  first_that_passes [] = refl
  first_that_passes (x ∷ xs) =
      elim (test x) as (λ b. slice_get (cond b (x ∷ filter test xs) (filter test xs)) 0 ≡ cond b (Some x) (find test xs)) [ true ↦ refl | false ↦ first_that_passes xs ]

  -- the one that is found, or else the other
  abbrev or_else : Option X → Option X → Option X
  or_else None o = o
  or_else (Some x) o = Some x

  or_else_none : (a : Option X) → or_else a None ≡ a
  or_else_none None = refl
  or_else_none (Some x) = refl

  -- of a list and one more behind it
  find_push : (xs : List X) (x : X) → find test (xs ++ x ∷ []) ≡ or_else (find test xs) (cond (test x) (Some x) None)
  find_push [] x = refl
  find_push (y ∷ xs) x =
      elim (test y) as (λ b. cond b (Some y) (find test (xs ++ x ∷ [])) ≡ or_else (cond b (Some y) (find test xs)) (cond (test x) (Some x) None)) [ true ↦ refl | false ↦ find_push xs x ]

  or_else_twice : (a b o : Option X) → or_else (or_else a b) o ≡ or_else a (or_else b o)
  or_else_twice None b o = refl
  or_else_twice (Some x) b o = refl

  last_behind : (o : Option X) (xs : List X) → last_or o (filter test xs) ≡ or_else (find test (reverse xs)) o
  last_behind o [] = refl
  last_behind o (x ∷ xs) =
      let back = find test (reverse xs) in
      elim (test x) as (λ b. last_or o (cond b (x ∷ filter test xs) (filter test xs)) ≡ or_else back (or_else (cond b (Some x) None) o)) [ true ↦ last_behind (Some x) xs | false ↦ last_behind o xs ]
      ∙ sym (or_else_twice back (cond (test x) (Some x) None) o)
      ∙ ap (λ a. or_else a o) (sym (find_push (reverse xs) x) ∙ ap (find test) (sym (reverse-append (x ∷ []) xs)))

  -- the last
  pub last_that_passes : (xs : List X) → last_or None (filter test xs) ≡ find test (reverse xs)
  last_that_passes xs = last_behind None xs ∙ or_else_none (find test (reverse xs))
