-- Whether two lists of ids and flags are the same.
use Rattle.std.proofs.Common.{◌≡◌, ℕ, Bool, true, false, ◌&&◌, eqb, List, [], ◌∷◌, refl}
use Rattle.std.proofs.Math.Bool.{beq}
use Rattle.std.specs.Cmp.Lexicographic.{pointwise}
use Rattle.std.proofs.lemmas.Bool.{eqb-true, and_from, false≢true}
use Rattle.std.proofs.lemmas.Cmp.{nat_list_eq_equiv}
use Rattle.wse_path.proofs.EntryLemmas.{and_parts}

abbrev pub same_pair : ℕ × Bool → ℕ × Bool → Bool
same_pair x y = eqb x.0 y.0 && beq x.1 y.1

same_flag : (a b : Bool) → beq a b ≡ true → a ≡ b
same_flag true true h = refl
same_flag true false h = absurd (false≢true h)
same_flag false true h = absurd (false≢true h)
same_flag false false h = refl

flag_itself : (a : Bool) → beq a a ≡ true
flag_itself true = refl
flag_itself false = refl

eqb_itself : (n : ℕ) → eqb n n ≡ true
eqb_itself n = (and_parts (eqb n n) true (nat_list_eq_equiv.refl (n ∷ []))).0

pub same_pairs : (xs ys : List (ℕ × Bool)) → pointwise same_pair xs ys ≡ true → xs ≡ ys
same_pairs [] [] h = refl
same_pairs [] (y ∷ ys) h = absurd (false≢true h)
same_pairs (x ∷ xs) [] h = absurd (false≢true h)
same_pairs (x ∷ xs) (y ∷ ys) h =
    let both = and_parts (same_pair x y) (pointwise same_pair xs ys) h in
    let parts = and_parts (eqb x.0 y.0) (beq x.1 y.1) both.0 in
    let id = eqb-true x.0 y.0 parts.0 in
    let flag = same_flag x.1 y.1 parts.1 in
    λ i. (id i, flag i) ∷ same_pairs xs ys both.1 i

pub pairs_itself : (xs : List (ℕ × Bool)) → pointwise same_pair xs xs ≡ true
pairs_itself [] = refl
pairs_itself (x ∷ xs) = and_from (same_pair x x) (pointwise same_pair xs xs) (and_from (eqb x.0 x.0) (beq x.1 x.1) (eqb_itself x.0) (flag_itself x.1)) (pairs_itself xs)
