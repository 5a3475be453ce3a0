-- Text is made of bytes.
use Rattle.std.proofs.Common.{◌≡◌, ℕ, ◌<◌, true, List, [], ◌∷◌, All, IsUtf8, subst, arith, nat_lt, ⊎_elim}
use Rattle.std.proofs.Math.Utf8.{scalar, scalars, scalar_cases, encode, encodes}
use Rattle.std.proofs.lemmas.Bool.{and_parts, cond_both, ltb-true}
use Rattle.std.specs.List.{AllByRecursion}
use Rattle.std.proofs.lemmas.List.Elements.{All-append, All-from_recursion, All-nil}
use Rattle.percent_encoding.proofs.PercentLemmas.{IsByte}

below : (c : ℕ) → scalar c ≡ true → c < 1114112
below c h = ⊎_elim (λ low. omega arith) (λ high. high.1) (scalar_cases c h)

bytes_of_encode : (c : ℕ) → scalar c ≡ true → AllByRecursion IsByte (encode c)
unfolding encode
bytes_of_encode c h =
    let small = below c h in
    cond_both (nat_lt c 128) _ _ (AllByRecursion IsByte)
    (λ e. (omega (arith, ltb-true c 128 e), tt))
    (λ _. cond_both (nat_lt c 2048) _ _ (AllByRecursion IsByte)
    (λ e. (omega (arith, ltb-true c 2048 e), (omega arith, tt)))
    (λ _. cond_both (nat_lt c 65536) _ _ (AllByRecursion IsByte)
    (λ e. (omega (arith, ltb-true c 65536 e), (omega arith, (omega arith, tt))))
    (λ _. (omega (arith, small), (omega arith, (omega arith, (omega arith, tt)))))))

All-encodes : (cs : List ℕ) → scalars cs ≡ true → All IsByte (encodes cs)
All-encodes [] h = All-nil IsByte
All-encodes (c ∷ cs) h =
    let parts = and_parts (scalar c) (scalars cs) h in
    All-append IsByte (encode c) (encodes cs) (All-from_recursion IsByte (encode c) (bytes_of_encode c parts.0)) (All-encodes cs parts.1)

pub bytes_from_text : (bs : List ℕ) → IsUtf8 bs → All IsByte bs
bytes_from_text bs h = subst (All IsByte) h.1.1 (All-encodes h.0 h.1.0)
