-- Lists that are changed in place, one item after another.
use Rattle.std.proofs.Common.{◌≡◌, ℕ, zero, suc, ◌+◌, ◌<◌, List, [], ◌∷◌, ◌++◌, map, length, take, drop, get_or, set, refl, sym, ap, ◌∙◌, arith}
use Rattle.std.proofs.lemmas.List.{length-map}

module _ {X : Type 0} (f : X → X) where
  changed : (xs : List X) (i : ℕ) (d : X) → i < length xs → set (map f (take i xs) ++ drop i xs) i (f (get_or (map f (take i xs) ++ drop i xs) i d)) ≡ map f (take (suc i) xs) ++ drop (suc i) xs
  changed [] i d h = absurd (omega arith)
  changed (x ∷ xs) zero d h = refl
  changed (x ∷ xs) (suc i) d h = ap (λ ys. f x ∷ ys) (changed xs i d (omega arith))

  -- one more item is changed
  pub changed_more : (xs now : List X) (i : ℕ) (y : X) → i < length xs → now ≡ map f (take i xs) ++ drop i xs → y ≡ get_or now i y → set now i (f y) ≡ map f (take (i + 1) xs) ++ drop (i + 1) xs
  changed_more xs now i y h e k =
      let next : i + 1 ≡ suc i = omega arith in
      ap (λ z. set now i (f z)) k
      ∙ ap (λ ys. set ys i (f (get_or ys i y))) e
      ∙ changed xs i y h
      ∙ ap (λ n. map f (take n xs) ++ drop n xs) (sym next)

module _ {X : Type 0} where
  whole : (new rest : List X) → take (length new) (new ++ rest) ≡ new
  whole [] rest = refl
  whole (x ∷ new) rest = ap (λ ys. x ∷ ys) (whole new rest)

  -- what a slice of the whole list is written back as
  pub written_back : (f : X → X) (len : ℕ) (items old new rest : List X) → new ≡ map f old → old ≡ items → len ≡ length old → take len (new ++ rest) ≡ map f items
  written_back f len items old new rest e k l =
      let same : len ≡ length new = l ∙ sym (length-map old f) ∙ ap (λ xs. length xs) (sym e) in
      ap (λ n. take n (new ++ rest)) same ∙ whole new rest ∙ e ∙ ap (λ xs. map f xs) k
