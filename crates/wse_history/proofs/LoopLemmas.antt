-- Lists that a loop builds, item by item.
use Rattle.std.proofs.Common.{◌≡◌, ℕ, ◌+◌, ◌<◌, ◌≤◌, List, [], ◌∷◌, ◌++◌, length, map, take, get_or, sym, ap, subst, ◌∙◌, append_assoc}
use Rattle.std.specs.List.{All, flat_map}
use Rattle.std.proofs.lemmas.List.{flat_map_more, map-append, take_more, take_all}
use Rattle.std.proofs.lemmas.List.Elements.{All-more}

pub one_more : {X : Type 0} (xs : List X) (i : ℕ) (x : X) → i < length xs → x ≡ get_or xs i x → take i xs ++ x ∷ [] ≡ take (i + 1) xs
one_more xs i x lt e = ap (λ y. take i xs ++ y ∷ []) e ∙ sym (take_more xs i x lt)

-- one more is pushed behind what was there
pub pushed : {X Y : Type 0} (f : X → Y) (front : List Y) (xs : List X) (i : ℕ) (x : X) (before after : List Y) → i < length xs → x ≡ get_or xs i x
    → after ≡ before ++ f x ∷ [] → before ≡ front ++ map f (take i xs) → after ≡ front ++ map f (take (i + 1) xs)
pushed f front xs i x before after lt e put so_far =
    put ∙ ap (λ (ys : List _). ys ++ f x ∷ []) so_far ∙ append_assoc front (map f (take i xs)) (f x ∷ [])
    ∙ ap (λ (ys : List _). front ++ ys) (sym (map-append f (take i xs) (x ∷ [])) ∙ ap (λ (zs : List _). map f zs) (one_more xs i x lt e))

pub all_pushed : {X Y : Type 0} (f : X → Y) (front : List Y) (xs : List X) (i : ℕ) (now : List Y) → length xs ≤ i → now ≡ front ++ map f (take i xs) → now ≡ front ++ map f xs
all_pushed f front xs i now le so_far = so_far ∙ ap (λ (zs : List _). front ++ map f zs) (take_all i xs le)

-- the same where an item makes a list
pub spread : {X Y : Type 0} (f : X → List Y) (front : List Y) (xs : List X) (i : ℕ) (x : X) (before after : List Y) → i < length xs → x ≡ get_or xs i x
    → after ≡ before ++ f x → before ≡ front ++ flat_map f (take i xs) → after ≡ front ++ flat_map f (take (i + 1) xs)
spread f front xs i x before after lt e put so_far =
    put ∙ ap (λ (ys : List _). ys ++ f x) so_far ∙ flat_map_more f front (take i xs) x
    ∙ ap (λ (zs : List _). front ++ flat_map f zs) (one_more xs i x lt e)

pub all_spread : {X Y : Type 0} (f : X → List Y) (front : List Y) (xs : List X) (i : ℕ) (now : List Y) → length xs ≤ i → now ≡ front ++ flat_map f (take i xs) → now ≡ front ++ flat_map f xs
all_spread f front xs i now le so_far = so_far ∙ ap (λ (zs : List _). front ++ flat_map f zs) (take_all i xs le)

-- what holds of each so far
pub told_more : {X : Type 0} (P : X → Type 0) (xs : List X) (i : ℕ) (x : X) → i < length xs → x ≡ get_or xs i x → P x → All P (take i xs) → All P (take (i + 1) xs)
told_more P xs i x lt e h so_far = All-more P xs i x lt so_far (subst P e h)

pub all_told : {X : Type 0} (P : X → Type 0) (xs : List X) (i : ℕ) → length xs ≤ i → All P (take i xs) → All P xs
all_told P xs i le so_far = subst (All P) (take_all i xs le) so_far
