-- What the test of a list of segments says.
use Rattle.std.proofs.Common.{◌≡◌, ℕ, ◌+◌, ◌<◌, ◌≤◌, Bool, true, false, cond, not, List, [], ◌∷◌, length, map, refl, ap, arith, get_or, Option, Some, None, sum_by, suc, String, string_bytes}
use Rattle.std.specs.List.{AllByRecursion}
use Rattle.std.proofs.lemmas.List.Elements.{All-from_recursion, All-weaker}
use Rattle.std.specs.List.{AllZip, starts_with}
use Rattle.std.specs.Str.{bytes_eq, IsUtf8}
use Rattle.std.proofs.lemmas.Str.{IsUtf8-string_bytes}
use Rattle.std.specs.Hash as fed
use Rattle.std.specs.List.{flat_map}
use Rattle.std.proofs.Common.{◌++◌}
use Rattle.std.proofs.Common.{take, zero}
use Rattle.wse_path.specs.Path.{is_under, is_bad, bytes_of, refusal, refusal_within, text_of}
use Rattle.std.specs.Prelude.{nat_lt, ◌==◌}
use Rattle.wse_path.specs.declared.path.PathRefused.{PathRefused}
use Rattle.wse_path.specs.declared.path.PathRefused.TheVariants.{Empty, TooDeep, TooLong}
use Rattle.std.proofs.Common.{sym, ◌∙◌, ◌&&◌, ◌-◌, length-append, append_assoc}
use Rattle.std.proofs.lemmas.Bool.{ne_eqb, le-ltb, lt-ltb}
use Rattle.std.specs.declared.cmp.Ordering.{Ordering}
use Rattle.std.specs.Ordering.{ordering_then}
use Rattle.std.specs.Cmp.Lexicographic.{pointwise, slice_cmp}
use Rattle.std.specs.List.{prefix_len, position, All}
use Rattle.std.proofs.lemmas.Bool.Decides.{nat_tests}
use Rattle.std.proofs.lemmas.List.Sums.{sum_by-cons}
use Rattle.std.proofs.lemmas.List.{take_more, map-append, length-take-le}

pub prefix_len_map : {X Y : Type 0} (p : Y → Bool) (f : X → Y) (xs : List X) → prefix_len p (map f xs) ≡ prefix_len (λ x. p (f x)) xs
prefix_len_map p f [] = refl
prefix_len_map p f (x ∷ xs) = ap (λ n. cond (p (f x)) (1 + n) 0) (prefix_len_map p f xs)

pub length_mapped : {X Y : Type 0} (f : X → Y) (xs : List X) → length (map f xs) ≡ length xs
length_mapped f [] = refl
length_mapped f (x ∷ xs) = grind (arith, length_mapped f xs)

pub position_map : {X Y : Type 0} (p : Y → Bool) (f : X → Y) (xs : List X) → position p (map f xs) ≡ position (λ x. p (f x)) xs
position_map p f xs = rw (prefix_len_map (λ y. not (p y)) f xs, length_mapped f xs)

-- a prefix as long as the list leaves out none
all_within : {X : Type 0} (p : X → Bool) (xs : List X) → length xs ≤ prefix_len (λ x. not (p x)) xs → AllByRecursion (λ x. p x ≡ false) xs
all_within p [] h = tt
all_within p (x ∷ xs) h = elim (p x) as (λ b. p x ≡ b → suc (length xs) ≤ cond (not b) (1 + prefix_len (λ x. not (p x)) xs) 0 → AllByRecursion (λ x. p x ≡ false) (x ∷ xs)) [
  | true ↦ λ e l. absurd (omega arith)
  | false ↦ λ e l. (e, all_within p xs (omega arith))
] refl h

-- where none passes, each fails
pub none_passes : {X : Type 0} (p : X → Bool) (xs : List X) → position p xs ≡ None → All (λ x. p x ≡ false) xs
none_passes p xs e = All-from_recursion _ xs (all_within p xs (grind (arith, nat_tests)))

-- a segment that is not bad is short
short : (s : List ℕ) → is_bad s ≡ false → length s ≤ 255
short s e = grind (arith, nat_tests)

pub all_short : {A : Type 0} (ss : List (String A)) → position is_bad (bytes_of ss) ≡ None → All (λ s. length (string_bytes s) ≤ 255) ss
all_short ss e = All-weaker _ _ (λ s. short (string_bytes s)) ss (none_passes (λ s. is_bad (string_bytes s)) ss (rw (position_map is_bad (λ s. string_bytes s) ss) at e))

within_refusal : (ss : List (List ℕ)) → 0 < length ss → length ss ≤ 64 → refusal ss ≡ refusal_within ss (position is_bad ss)
within_refusal ss some few = rw (ne_eqb (length ss) 0 (omega arith), le-ltb 64 (length ss) few)

-- past the first two tests, the first bad segment decides
pub refusal_at : {A : Type 0} (ss : List (String A)) (first : Option ℕ) → first ≡ position (λ s. is_bad (string_bytes s)) ss → 0 < length ss → length ss ≤ 64 → refusal (bytes_of ss) ≡ refusal_within (bytes_of ss) first
refusal_at ss first e some few = within_refusal (bytes_of ss) (rw (length_mapped (λ s. string_bytes s) ss) some) (rw (length_mapped (λ s. string_bytes s) ss) few) ∙ ap (refusal_within (bytes_of ss)) (position_map is_bad (λ s. string_bytes s) ss ∙ sym e)

pub too_long : (ss : List (List ℕ)) → 4096 < length (text_of ss) → refusal_within ss None ≡ Some (TooLong (length (text_of ss)))
too_long ss h = rw (lt-ltb 4096 (length (text_of ss)) h)

pub not_too_long : (ss : List (List ℕ)) → length (text_of ss) ≤ 4096 → refusal_within ss None ≡ None
not_too_long ss h = rw (le-ltb 4096 (length (text_of ss)) h)

pub pointwise_map : {X Y : Type 0} (E : Y → Y → Bool) (f : X → Y) (xs ys : List X) → pointwise E (map f xs) (map f ys) ≡ pointwise (λ x y. E (f x) (f y)) xs ys
pointwise_map E f [] [] = refl
pointwise_map E f [] (y ∷ ys) = refl
pointwise_map E f (x ∷ xs) [] = refl
pointwise_map E f (x ∷ xs) (y ∷ ys) = ap (λ b. E (f x) (f y) && b) (pointwise_map E f xs ys)

pub slice_cmp_map : {X Y : Type 0} (R : Y → Y → Ordering) (f : X → Y) (xs ys : List X) → slice_cmp R (map f xs) (map f ys) ≡ slice_cmp (λ x y. R (f x) (f y)) xs ys
slice_cmp_map R f [] [] = refl
slice_cmp_map R f [] (y ∷ ys) = refl
slice_cmp_map R f (x ∷ xs) [] = refl
slice_cmp_map R f (x ∷ xs) (y ∷ ys) = ap (λ o. ordering_then (R (f x) (f y)) o) (slice_cmp_map R f xs ys)

take_map : {X Y : Type 0} (f : X → Y) (n : ℕ) (xs : List X) → take n (map f xs) ≡ map f (take n xs)
take_map f zero xs = refl
take_map f (suc n) [] = refl
take_map f (suc n) (x ∷ xs) = ap (λ t. f x ∷ t) (take_map f n xs)

pub starts_with_map : {X Y : Type 0} (E : Y → Y → Bool) (f : X → Y) (xs ps : List X) → starts_with E (map f xs) (map f ps) ≡ starts_with (λ x y. E (f x) (f y)) xs ps
starts_with_map E f xs ps = rw (length_mapped f ps, take_map f (length ps) xs) (pointwise_map E f ps (take (length ps) xs))

-- clones of segments have the same bytes
pub bytes_of_clones : {A : Type 0} (xs ys : List (String A)) → AllZip (λ s t. string_bytes t ≡ string_bytes s) xs ys → bytes_of ys ≡ bytes_of xs
bytes_of_clones [] [] h = refl
bytes_of_clones [] (y ∷ ys) h = absurd h
bytes_of_clones (x ∷ xs) [] h = absurd h
bytes_of_clones (x ∷ xs) (y ∷ ys) h = λ i. h.0 i ∷ bytes_of_clones xs ys h.1 i

pub under_is : (p q : List (List ℕ)) (b : Bool) → length q < length p → b ≡ starts_with bytes_eq p q → b ≡ is_under p q
under_is p q b l e = rw (lt-ltb (length q) (length p) l) e

flat_map_map : {X Y Z : Type 0} (F : Y → List Z) (f : X → Y) (xs : List X) → flat_map F (map f xs) ≡ flat_map (λ x. F (f x)) xs
flat_map_map F f [] = refl
flat_map_map F f (x ∷ xs) = ap (λ t. F (f x) ++ t) (flat_map_map F f xs)

-- what is fed to a hasher for mapped items
pub fed_map : {X Y : Type 0} (F : Y → fed.HashWrites) (f : X → Y) (xs : List X) → fed.slice F (map f xs) ≡ fed.slice (λ x. F (f x)) xs
fed_map F f xs = rw (length_mapped f xs, flat_map_map F f xs)

-- the text of segments is as long as they are together, and one more for each `/`
pub length-text_of : {A : Type 0} (ss : List (String A)) → length (text_of (bytes_of ss)) ≡ sum_by (λ s. length (string_bytes s)) ss + (length ss - 1)
length-text_of [] = refl
length-text_of (s ∷ []) = grind (arith, sum_by-cons (λ (x : String _). length (string_bytes x)) s [])
length-text_of (s ∷ t ∷ ss) =
    omega (arith, length-append (string_bytes s) (47 ∷ text_of (bytes_of (t ∷ ss))), length-text_of (t ∷ ss), sum_by-cons (λ x. length (string_bytes x)) s (t ∷ ss))

-- one segment more
pub text_of-push : (ss : List (List ℕ)) (s : List ℕ) → 0 < length ss → text_of (ss ++ s ∷ []) ≡ (text_of ss ++ 47 ∷ []) ++ s
text_of-push [] s h = absurd (omega arith)
text_of-push (a ∷ []) s h = sym (append_assoc a (47 ∷ []) s)
text_of-push (a ∷ b ∷ ss) s h =
    ap (λ t. a ++ 47 ∷ t) (text_of-push (b ∷ ss) s (omega arith)) ∙ sym (append_assoc a (47 ∷ (text_of (b ∷ ss) ++ 47 ∷ [])) s ∙ refl) ∙ ap (λ t. t ++ s) (sym (append_assoc a (47 ∷ text_of (b ∷ ss)) (47 ∷ [])))

-- the text with the first segment
pub text_first : {A : Type 0} (xs : List (String A)) (d : String A) → 0 < length xs → text_of (bytes_of (take 1 xs)) ≡ string_bytes (get_or xs 0 d)
text_first [] d h = absurd (omega arith)
text_first (x ∷ xs) d h = refl

-- the text with one segment more
pub text_next : {A : Type 0} (xs : List (String A)) (i : ℕ) (d : String A) → i < length xs → 0 < i → text_of (bytes_of (take (i + 1) xs)) ≡ (text_of (bytes_of (take i xs)) ++ 47 ∷ []) ++ string_bytes (get_or xs i d)
text_next xs i d l p =
    ap (λ ss. text_of (bytes_of ss)) (take_more xs i d l) ∙ ap text_of (map-append (λ s. string_bytes s) (take i xs) (get_or xs i d ∷ []))
    ∙ text_of-push (bytes_of (take i xs)) (string_bytes (get_or xs i d)) (omega (arith, length_mapped (λ s. string_bytes s) (take i xs), length-take-le i xs (omega arith)))

each_utf8 : {A : Type 0} (ss : List (String A)) → AllByRecursion IsUtf8 (bytes_of ss)
each_utf8 [] = tt
each_utf8 (s ∷ ss) = (IsUtf8-string_bytes s, each_utf8 ss)

-- the bytes of each segment are UTF-8
pub all_utf8 : {A : Type 0} (ss : List (String A)) → All IsUtf8 (bytes_of ss)
all_utf8 ss = All-from_recursion IsUtf8 (bytes_of ss) (each_utf8 ss)

unrefused : (none deep : Bool) (x y : PathRefused) (o : Option PathRefused) → cond none (Some x) (cond deep (Some y) o) ≡ None → (deep ≡ false) × (o ≡ None)
unrefused true deep x y o h = cc
unrefused false true x y o h = cc
unrefused false false x y o h = (refl, h)

unrefused_within : (ss : List (List ℕ)) (first : Option ℕ) → refusal_within ss first ≡ None → (first ≡ None) × (length (text_of ss) ≤ 4096)
unrefused_within ss (Some index) h = cc
unrefused_within ss None h =
    elim (nat_lt 4096 (length (text_of ss))) as (λ b. nat_lt 4096 (length (text_of ss)) ≡ b → cond b (Some (TooLong (length (text_of ss)))) None ≡ None → (◌≡◌ {A = Option ℕ} None None) × (length (text_of ss) ≤ 4096)) [
      | true ↦ λ e g. cc
      | false ↦ λ e g. (refl, grind (arith, nat_tests))
    ] refl h

few_where : (n : ℕ) → nat_lt 64 n ≡ false → n ≤ 64
few_where n e = grind (arith, nat_tests)

-- what a path's invariant says of its segments
pub path_facts : {A : Type 0} (ss : List (String A)) → refusal (bytes_of ss) ≡ None → record { few : length ss ≤ 64; good : position is_bad (bytes_of ss) ≡ None; short : length (text_of (bytes_of ss)) ≤ 4096 }
path_facts ss h =
    let parts = unrefused (length (bytes_of ss) == 0) (nat_lt 64 (length (bytes_of ss))) Empty (TooDeep (length (bytes_of ss))) (refusal_within (bytes_of ss) (position is_bad (bytes_of ss))) h in
    let within = unrefused_within (bytes_of ss) (position is_bad (bytes_of ss)) parts.1 in
    record {
      few = rw (length_mapped (λ s. string_bytes s) ss) at (few_where (length (bytes_of ss)) parts.0);
      good = within.0;
      short = within.1;
    }
