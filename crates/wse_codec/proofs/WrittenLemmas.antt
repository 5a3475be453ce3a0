-- Writing items one behind the other, as a loop does.
use Rattle.std.proofs.Common.{◌≡◌, ℕ, ◌+◌, ◌^◌, ◌<◌, ◌≤◌, List, ◌++◌, length, take, get_or, sym, ap, subst, ◌∙◌, append_assoc, arith}
use Rattle.std.specs.List.{All, flat_map}
use Rattle.std.proofs.lemmas.List.{flat_map_more, take_more, take_all}
use Rattle.std.proofs.lemmas.List.Elements.{All-more}
use Rattle.wse_codec.proofs.ShortLemmas.{item_within}

-- One more item is written.
pub item_more : {X : Type 0} (f : X → List ℕ) (front : List ℕ) (xs : List X) (i : ℕ) (d : X) → i < length xs
    → (front ++ flat_map f (take i xs)) ++ f (get_or xs i d) ≡ front ++ flat_map f (take (i + 1) xs)
item_more f front xs i d lt =
    flat_map_more f front (take i xs) (get_or xs i d) ∙ ap (λ (t : List _). front ++ flat_map f t) (sym (take_more xs i d lt))

-- The loop so far: what is written of the items, which are as they should be.
abbrev pub IsSpelledSoFar : {X : Type 0} → (X → List ℕ) → (X → Type 0) → List X → ℕ → List ℕ → List ℕ → Type 0
IsSpelledSoFar f P xs i start now = (now ≡ start ++ flat_map f (take i xs)) × All P (take i xs)

pub put_step : {X : Type 0} (f : X → List ℕ) (P : X → Type 0) (xs : List X) (i : ℕ) (x : X) (start before after : List ℕ) → i < length xs → x ≡ get_or xs i x
    → after ≡ before ++ f x → P x → IsSpelledSoFar f P xs i start before → IsSpelledSoFar f P xs (i + 1) start after
put_step f P xs i x start before after lt e put h so_far = (
  put ∙ ap (λ (t : List ℕ). t ++ f x) so_far.0 ∙ ap (λ y. (start ++ flat_map f (take i xs)) ++ f y) e ∙ item_more f start xs i x lt,
  All-more P xs i x lt so_far.1 (subst P e h),
)

-- All are written behind their number.
pub put_all : {X : Type 0} (f : X → List ℕ) (xs : List X) (i : ℕ) (old head start now : List ℕ) → length xs ≤ i → start ≡ old ++ head
    → now ≡ start ++ flat_map f (take i xs) → now ≡ old ++ (head ++ flat_map f xs)
put_all f xs i old head start now le begun so_far =
    so_far ∙ ap (λ (t : List _). start ++ flat_map f t) (take_all i xs le) ∙ ap (λ (s : List ℕ). s ++ flat_map f xs) begun ∙ append_assoc old head (flat_map f xs)

pub item_short : {X : Type 0} (f : X → List ℕ) (xs : List X) (i : ℕ) (x : X) → i < length xs → x ≡ get_or xs i x → length (flat_map f xs) < 2 ^ 32 → length (f x) < 2 ^ 32
item_short f xs i x lt e short = omega (arith, short, item_within f xs i x lt, ap (λ y. length (f y)) e)
