-- Words of digits, and the numbers that they write.
use Rattle.std.proofs.Common.{Some, None, ◌≡◌, ◌≢◌, ℕ, ◌^◌, ◌<◌, ◌≤◌, Bool, true, false, not, ◌&&◌, cond, nat_le, ◌==◌, List, [], ◌∷◌, get_or, refl, sym, ap, subst, arith}
use Rattle.std.specs.List.{list_all}
use Rattle.std.specs.Str.Parse.{AllDigits, IsNumeral, without_leading_plus, digits_value}
use Rattle.std.proofs.lemmas.Str.{digit_value_digit}
use Rattle.std.proofs.lemmas.Str.Parse.{without_leading_plus_none}
use Rattle.std.proofs.lemmas.Bool.{false≢true, leb-true, lt-leb}
use Rattle.wse_words.specs.Words.{is_digit, is_number, number_within}

both_true : (a b : Bool) → (a && b) ≡ true → (a ≡ true) × (b ≡ true)
both_true true b e = (refl, e)
both_true false b e = absurd (false≢true e)

in_range : (b : ℕ) → is_digit b ≡ true → (48 ≤ b) × (b ≤ 57)
in_range b e = let k = both_true (nat_le 48 b) (nat_le b 57) e in (leb-true 48 b k.0, leb-true b 57 k.1)

all_digits : (w : List ℕ) → list_all is_digit w ≡ true → AllDigits 10 w
all_digits [] e = tt
all_digits (b ∷ w) e =
    let k = both_true (is_digit b) (list_all is_digit w) e in
    let r = in_range b k.0 in
    (omega (arith, digit_value_digit b r, r.0, r.1), all_digits w k.1)

-- a number is a numeral, and begins with no `+`
numeral : (w : List ℕ) → is_number w ≡ true → IsNumeral 10 w × (get_or w 0 0 ≢ 43)
numeral [] e = absurd (false≢true e)
numeral (b ∷ []) e = let r = in_range b e in ((omega arith, (omega (arith, digit_value_digit b r, r.0, r.1), tt)), λ p. omega (arith, r.0, p))
numeral (b ∷ c ∷ w) e =
    let k = (both_true (list_all is_digit (b ∷ c ∷ w)) (not (b == 48)) e).0 in
    let r = in_range b (both_true (is_digit b) (list_all is_digit (c ∷ w)) k).0 in
    ((omega arith, all_digits (b ∷ c ∷ w) k), λ p. omega (arith, r.0, p))

outside : (a b : Bool) (n : ℕ) → b ≡ false → cond (a && b) (Some n) None ≡ None
outside true b n e = ap (λ t. cond t (Some n) None) e
outside false b n e = refl

behind : (a b : Bool) → b ≡ false → (a && b) ≡ false
behind true b e = e
behind false b e = refl

-- what can't be read as a number of 64 bits is too big
pub too_big : (least most : ℕ) (w : List ℕ) → is_number w ≡ true → most < 2 ^ 64
    → ¬ (IsNumeral 10 (without_leading_plus w) × (digits_value 10 (without_leading_plus w) < 2 ^ 64)) → number_within least most w ≡ None
too_big least most w e small unread =
    let k = numeral w e in
    let plain = without_leading_plus_none w k.1 in
    let v = digits_value 10 w in
    let big : ¬ (v < 2 ^ 64) = λ l. unread (subst (λ x. IsNumeral 10 x × (digits_value 10 x < 2 ^ 64)) (sym plain) (k.0, l)) in
    outside (is_number w) (nat_le least v && nat_le v most) v (behind (nat_le least v) (nat_le v most) (lt-leb v most (omega (arith, big, small))))
