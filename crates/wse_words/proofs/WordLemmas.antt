-- Lists of words that are too short or too long.
use Rattle.std.proofs.Common.{None, ◌≡◌, ℕ, ◌<◌, ◌≤◌, List, [], ◌∷◌, length, map, refl, arith}
use Rattle.wse_words.specs.Words.{options_in, run_in}

pub many_options : {X : Type 0} (f : X → List ℕ) (xs : List X) → 4 ≤ length xs → options_in (map f xs) ≡ None
many_options f [] l = absurd (omega arith)
many_options f (a ∷ []) l = absurd (omega arith)
many_options f (a ∷ b ∷ []) l = absurd (omega arith)
many_options f (a ∷ b ∷ c ∷ []) l = absurd (omega arith)
many_options f (a ∷ b ∷ c ∷ d ∷ xs) l = refl

pub few_run : {X : Type 0} (f : X → List ℕ) (xs : List X) → length xs < 3 → run_in (map f xs) ≡ None
few_run f [] l = refl
few_run f (a ∷ []) l = refl
few_run f (a ∷ b ∷ []) l = refl
few_run f (a ∷ b ∷ c ∷ xs) l = absurd (omega arith)
