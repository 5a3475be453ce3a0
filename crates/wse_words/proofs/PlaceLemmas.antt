-- Words without their last slashes, and words below a folder's.
use Rattle.std.proofs.Common.{◌≡◌, ◌≢◌, ℕ, ◌+◌, ◌<◌, ◌≤◌, Bool, true, false, cond, ◌&&◌, List, [], ◌∷◌, ◌++◌, length, take, get_or, nat_eq, refl, sym, ap, ◌∙◌, arith}
use Rattle.std.specs.Prelude.{◌==◌}
use Rattle.std.specs.List.{list_all, starts_with}
use Rattle.std.proofs.lemmas.List.{take_more}
use Rattle.std.proofs.lemmas.Bool.{ne_eqb}
use Rattle.std.proofs.lemmas.Bool.Decides.{nat_tests}
use Rattle.wse_words.specs.Words.{without_slashes}

all_behind : (p : ℕ → Bool) (xs : List ℕ) (b : ℕ) → list_all p (xs ++ b ∷ []) ≡ (list_all p xs && p b)
all_behind p [] b = elim (p b) as (λ t. (t && true) ≡ t) [ true ↦ refl | false ↦ refl ]
all_behind p (x ∷ xs) b = elim (p x) as (λ t. (t && list_all p (xs ++ b ∷ [])) ≡ ((t && list_all p xs) && p b)) [ true ↦ all_behind p xs b | false ↦ refl ]

and_true : (b : Bool) → (b && true) ≡ b
and_true true = refl
and_true false = refl

and_false : (b : Bool) → (b && false) ≡ false
and_false true = refl
and_false false = refl

-- a slash at the end goes
slash_behind : (xs : List ℕ) → without_slashes (xs ++ 47 ∷ []) ≡ without_slashes xs
slash_behind [] = refl
slash_behind (x ∷ xs) =
    ap (λ t. cond t [] (x ∷ without_slashes (xs ++ 47 ∷ []))) (all_behind (λ c. c == 47) (x ∷ xs) 47 ∙ and_true (list_all (λ c. c == 47) (x ∷ xs)))
    ∙ ap (λ l. cond (list_all (λ c. c == 47) (x ∷ xs)) [] (x ∷ l)) (slash_behind xs)

-- what ends in another byte stays
other_behind : (xs : List ℕ) (b : ℕ) → (b == 47) ≡ false → without_slashes (xs ++ b ∷ []) ≡ xs ++ b ∷ []
other_behind [] b e = ap (λ t. cond (t && true) [] (b ∷ [])) e
other_behind (x ∷ xs) b e =
    ap (λ t. cond t [] (x ∷ without_slashes (xs ++ b ∷ []))) (all_behind (λ c. c == 47) (x ∷ xs) b ∙ ap (λ t. list_all (λ c. c == 47) (x ∷ xs) && t) e ∙ and_false (list_all (λ c. c == 47) (x ∷ xs)))
    ∙ ap (λ l. x ∷ l) (other_behind xs b e)

-- one byte before the end is a slash
pub one_less : (w : List ℕ) (i : ℕ) → i < length w → get_or w i 0 ≡ 47 → without_slashes (take i w) ≡ without_slashes (take (i + 1) w)
one_less w i l e = sym (ap without_slashes (take_more w i 0 l ∙ ap (λ b. take i w ++ b ∷ []) e) ∙ slash_behind (take i w))

-- the byte before the end is no slash
pub no_less : (w : List ℕ) (i : ℕ) → i < length w → get_or w i 0 ≢ 47 → without_slashes (take (i + 1) w) ≡ take (i + 1) w
no_less w i l ne = ap without_slashes (take_more w i 0 l) ∙ other_behind (take i w) (get_or w i 0) (ne_eqb (get_or w i 0) 47 ne) ∙ sym (take_more w i 0 l)

nat_eq_swap : (a b : ℕ) → nat_eq a b ≡ nat_eq b a
nat_eq_swap a b = grind (arith, nat_tests)

swapped : (a b c : Bool) → (a && (b && c)) ≡ (b && (a && c))
swapped true b c = refl
swapped false true c = refl
swapped false false c = refl

-- a word that is longer begins with the folder and a slash where it has a slash behind the folder
pub below_is : (folder word : List ℕ) → length folder < length word → starts_with nat_eq word (folder ++ 47 ∷ []) ≡ (nat_eq (get_or word (length folder) 0) 47 && starts_with nat_eq word folder)
below_is [] [] l = absurd (omega arith)
below_is [] (x ∷ word) l = elim (nat_eq 47 x) as (λ t. nat_eq 47 x ≡ t → (t && true) ≡ (nat_eq x 47 && true)) [ true ↦ λ e. ap (λ b. b && true) (sym e ∙ nat_eq_swap 47 x) | false ↦ λ e. ap (λ b. b && true) (sym e ∙ nat_eq_swap 47 x) ] refl
below_is (y ∷ folder) [] l = absurd (omega arith)
below_is (y ∷ folder) (x ∷ word) l = ap (λ t. nat_eq y x && t) (below_is folder word (omega arith)) ∙ swapped (nat_eq y x) (nat_eq (get_or word (length folder) 0) 47) (starts_with nat_eq word folder)

pub not_below : (folder word : List ℕ) → length word ≤ length folder → starts_with nat_eq word (folder ++ 47 ∷ []) ≡ false
not_below [] [] l = refl
not_below [] (x ∷ word) l = absurd (omega arith)
not_below (y ∷ folder) [] l = refl
not_below (y ∷ folder) (x ∷ word) l = ap (λ t. nat_eq y x && t) (not_below folder word (omega arith)) ∙ and_false (nat_eq y x)

pub below_by : (folder word : List ℕ) → length folder < length word → get_or word (length folder) 0 ≡ 47 → starts_with nat_eq word (folder ++ 47 ∷ []) ≡ starts_with nat_eq word folder
below_by folder word l e = below_is folder word l ∙ ap (λ b. nat_eq b 47 && starts_with nat_eq word folder) e

pub not_below_by : (folder word : List ℕ) → length folder < length word → get_or word (length folder) 0 ≢ 47 → starts_with nat_eq word (folder ++ 47 ∷ []) ≡ false
not_below_by folder word l ne = below_is folder word l ∙ ap (λ t. t && starts_with nat_eq word folder) (ne_eqb (get_or word (length folder) 0) 47 ne)
