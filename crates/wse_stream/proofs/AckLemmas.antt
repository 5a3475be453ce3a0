-- What the form of the clause on images says of acknowledged lines.
use Rattle.std.proofs.Common.{◌≢◌, ℕ, zero, suc, ◌+◌, ◌<◌, ◌≤◌, List, [], ◌∷◌, take, length, refl, ap, arith, length-append}
use Rattle.wse_disk.specs.Reading.{Reading}
use Rattle.wse_io.specs.Stream.{IsPrefix}
use Rattle.wse_stream.specs.Machine.{Machine, transcript}
use Rattle.wse_stream.specs.Run.{HoldsFront}
use Rattle.wse_stream.proofs.PieceLemmas.{by_order}

some_length : (xs : List ℕ) → xs ≢ [] → 0 < length xs
some_length [] some = absurd (some refl)
some_length (x ∷ xs) some = omega arith

module _ {S : Type 0} (m : Machine S) (some : (n : ℕ) (s : S) (line : List ℕ) → m.answer n s line ≢ []) where
  longer : (n : ℕ) (s : S) (ls : List (List ℕ)) (i j : ℕ) → i < j → j ≤ length ls → length (transcript m n s (take i ls)) < length (transcript m n s (take j ls))
  unfolding transcript
  longer n s [] i j l le = absurd (omega (arith, l, le))
  longer n s (x ∷ ls) i zero l le = absurd (omega (arith, l))
  longer n s (x ∷ ls) zero (suc j) l le = omega (arith, some_length (m.answer n s x) (some n s x), length-append (m.answer n s x) (transcript m (n + 1) (m.after s x) (take j ls)))
  longer n s (x ∷ ls) (suc i) (suc j) l le =
      omega (arith, longer (n + 1) (m.after s x) ls i j (omega (arith, l)) (omega (arith, le)), length-append (m.answer n s x) (transcript m (n + 1) (m.after s x) (take i ls)), length-append (m.answer n s x) (transcript m (n + 1) (m.after s x) (take j ls)))

  prefix_length : (xs ys : List ℕ) → IsPrefix xs ys → length xs ≤ length ys
  prefix_length xs ys p = omega (arith, ap length p.1, length-append xs p.0)

  -- an image that holds a front to which all that was out are answers holds each line whose answer was out whole
  pub acknowledged : (n : ℕ) (s : S) (ls : List (List ℕ)) (out : List ℕ) (c : Reading) → (h : HoldsFront m n s ls out c) → (j : ℕ) → j ≤ length ls → IsPrefix (transcript m n s (take j ls)) out → j ≤ h.front
  acknowledged n s ls out c h j le out_whole =
      by_order (j ≤ h.front) h.front j
      (λ lt. absurd (omega (arith, longer n s ls h.front j lt le, prefix_length _ _ out_whole, prefix_length _ _ h.answered)))
      (λ ge. ge)
