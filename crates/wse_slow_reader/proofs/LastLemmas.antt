-- The last of a list.
use Rattle.std.proofs.Common.{◌≡◌, ℕ, zero, suc, ◌-◌, List, [], ◌∷◌, length, refl, sym, ap, arith}
use Rattle.std.specs.Prelude.{Some, None, slice_get}
use Rattle.std.specs.List.{last_or}

module _ {X : Type 0} where
  last_some : (x : X) (xs : List X) (n : ℕ) → n ≡ length xs → last_or (Some x) xs ≡ slice_get (x ∷ xs) n
  last_some x [] n e = ap (slice_get (x ∷ [])) {x = 0} {y = n} (sym e)
  last_some x (y ∷ xs) zero e = absurd (omega (arith, e))
  last_some x (y ∷ xs) (suc n) e = last_some y xs n (omega (arith, e))

  pub last_get : (xs : List X) → last_or None xs ≡ slice_get xs (length xs - 1)
  last_get [] = refl
  last_get (x ∷ xs) = last_some x xs (length (x ∷ xs) - 1) (omega arith)
