-- Answers and states over one list of lines after another.
use Rattle.std.proofs.Common.{◌≡◌, ℕ, ◌+◌, List, [], ◌∷◌, ◌++◌, length, refl, sym, ap, ◌∙◌, append_assoc, arith}
use Rattle.std.proofs.lemmas.List.{append-nil}
use Rattle.wse_stream.specs.Machine.{Machine, transcript, state_after}

module _ {S : Type 0} (m : Machine S) where
  pub transcript-nil : (n : ℕ) (s : S) → transcript m n s [] ≡ []
  unfolding transcript
  transcript-nil n s = refl

  pub transcript-one : (n : ℕ) (s : S) (line : List ℕ) → transcript m n s (line ∷ []) ≡ m.answer n s line
  unfolding transcript
  transcript-one n s line = append-nil (m.answer n s line)

  pub state_after-nil : (s : S) → state_after m s [] ≡ s
  unfolding state_after
  state_after-nil s = refl

  pub state_after-one : (s : S) (line : List ℕ) → state_after m s (line ∷ []) ≡ m.after s line
  unfolding state_after
  state_after-one s line = refl

pub transcript-append : {S : Type 0} (m : Machine S) (n : ℕ) (s : S) (xs ys : List (List ℕ)) → transcript m n s (xs ++ ys) ≡ transcript m n s xs ++ transcript m (n + length xs) (state_after m s xs) ys
unfolding transcript state_after
transcript-append m n s [] ys = ap (λ k. transcript m k s ys) (omega arith)
transcript-append m n s (x ∷ xs) ys =
    ap (λ rest. m.answer n s x ++ rest)
    (transcript-append m (n + 1) (m.after s x) xs ys ∙ ap (λ k. transcript m (n + 1) (m.after s x) xs ++ transcript m k (state_after m (m.after s x) xs) ys) (omega arith))
    ∙ sym (append_assoc (m.answer n s x) (transcript m (n + 1) (m.after s x) xs) _)

pub state_after-append : {S : Type 0} (m : Machine S) (s : S) (xs ys : List (List ℕ)) → state_after m s (xs ++ ys) ≡ state_after m (state_after m s xs) ys
unfolding state_after
state_after-append m s [] ys = refl
state_after-append m s (x ∷ xs) ys = state_after-append m (m.after s x) xs ys
