-- Lists made place by place.
use Rattle.std.proofs.Common.{◌≡◌, ℕ, ◌+◌, ◌<◌, ◌≤◌, suc, zero, Bool, cond, List, [], ◌∷◌, ◌++◌, length, take, drop, get_or, eqb, None, inl, inr, refl, sym, ap, ◌∙◌, append_assoc, arith}
use Rattle.std.specs.List.{flat_map, range_with_len, slice_get}
use Rattle.std.specs.Option.{option_to_list}
use Rattle.std.proofs.lemmas.Bool.{cases_lt, eq-eqb, ne_eqb}
use Rattle.std.proofs.lemmas.List.{drop_all, drop_more}
use Rattle.std.proofs.lemmas.Option.{slice_get-get_or}
use Rattle.wse_splice.specs.Splice.{rebuilt}

-- What f gives at the n places from a on.
abbrev pub over : {A : Type 0} → (ℕ → List A) → ℕ → ℕ → List A
over f a n = flat_map f (range_with_len a n)

-- The places fall into two parts, the second from b on.
pub over_parts : {A : Type 0} (f : ℕ → List A) (a m n b k : ℕ) → a + m ≡ b → m + n ≡ k → over f a k ≡ over f a m ++ over f b n
over_parts f a zero n b k p q =
    let same_start : b ≡ a = omega arith in
    let same_length : k ≡ n = omega arith in
    rw (same_start, same_length) refl
over_parts f a (suc m) n b k p q =
    let one_more : k ≡ suc (m + n) = omega arith in
    rw one_more (ap (λ t. f a ++ t) (over_parts f (a + 1) m n b (m + n) (omega arith) refl) ∙ sym (append_assoc (f a) (over f (a + 1) m) (over f b n)))

-- Only what f gives at these places matters.
pub over_same : {A : Type 0} (f g : ℕ → List A) (a n : ℕ) → ((k : ℕ) → a ≤ k → k < a + n → f k ≡ g k) → over f a n ≡ over g a n
over_same f g a zero same = refl
over_same f g a (suc n) same =
    let here : f a ≡ g a = same a (omega arith) (omega arith) in
    let behind : over f (a + 1) n ≡ over g (a + 1) n = over_same f g (a + 1) n (λ k low high. same k (omega arith) (omega arith)) in
    λ i. here i ++ behind i

pub over_nothing : {A : Type 0} (f : ℕ → List A) (a n : ℕ) → ((k : ℕ) → a ≤ k → k < a + n → f k ≡ []) → over f a n ≡ []
over_nothing f a zero none = refl
over_nothing f a (suc n) none =
    let here : f a ≡ [] = none a (omega arith) (omega arith) in
    let behind : over f (a + 1) n ≡ [] = over_nothing f (a + 1) n (λ k low high. none k (omega arith) (omega arith)) in
    λ i. here i ++ behind i

slice_get_past : (bs : List ℕ) (a : ℕ) → length bs ≤ a → slice_get bs a ≡ None
slice_get_past [] a h = refl
slice_get_past (b ∷ bs) zero h = absurd (omega arith)
slice_get_past (b ∷ bs) (suc a) h = slice_get_past bs a (omega arith)

take-nil : {A : Type 0} (n : ℕ) → take {A = A} n [] ≡ []
take-nil zero = refl
take-nil (suc n) = refl

-- The bytes at the places, one after another.
pub over_bytes : (bs : List ℕ) (a n : ℕ) → over (λ k. option_to_list (slice_get bs k)) a n ≡ take n (drop a bs)
over_bytes bs a zero = refl
over_bytes bs a (suc n) =
    let behind = over_bytes bs (a + 1) n in
    elim (cases_lt a (length bs)) [
      | inl low ↦ ap (λ o. option_to_list o ++ over (λ k. option_to_list (slice_get bs k)) (a + 1) n) (slice_get-get_or bs a 0 low) ∙ ap (λ t. get_or bs a 0 ∷ t) behind ∙ ap (λ t. take (suc n) t) (sym (drop_more bs a 0 low))
      | inr high ↦ ap (λ o. option_to_list o ++ over (λ k. option_to_list (slice_get bs k)) (a + 1) n) (slice_get_past bs a high) ∙ behind ∙ ap (λ t. take n t) (drop_all (a + 1) bs (omega arith)) ∙ take-nil n ∙ ap (λ t. take (suc n) t) (sym (drop_all a bs high))
    ]

-- What is put in at the first place stands in front.
pub over_first : {A : Type 0} (f : ℕ → List A) (xs : List A) (a n : ℕ) → 0 < n → over (λ k. cond (eqb a k) xs [] ++ f k) a n ≡ xs ++ over f a n
over_first f xs a zero h = absurd (omega arith)
over_first f xs a (suc n) h =
    let here : cond (eqb a a) xs [] ≡ xs = ap (λ b. cond b xs []) (eq-eqb a a refl) in
    let behind : over (λ k. cond (eqb a k) xs [] ++ f k) (a + 1) n ≡ over f (a + 1) n = over_same _ _ (a + 1) n (λ k low high. ap (λ b. cond b xs [] ++ f k) (ne_eqb a k (λ e. absurd (omega arith)))) in
    (λ i. (here i ++ f a) ++ behind i) ∙ append_assoc xs (f a) (over f (a + 1) n)

-- What is put in at each place, and which bytes go, is all that the rebuilt text depends on.
pub rebuilt_same : (old : List ℕ) (put_in put_in' : ℕ → List ℕ) (goes goes' : ℕ → Bool) → ((k : ℕ) → k ≤ length old → put_in k ≡ put_in' k) → ((k : ℕ) → k ≤ length old → goes k ≡ goes' k) → rebuilt old put_in goes ≡ rebuilt old put_in' goes'
rebuilt_same old put_in put_in' goes goes' same_put same_goes =
    over_same _ _ 0 (length old + 1) (λ k low high. let here : k ≤ length old = omega arith in λ i. same_put k here i ++ cond (same_goes k here i) [] (option_to_list (slice_get old k)))
