-- Texts with a separator between them, one more at a time.
use Rattle.std.proofs.Common.{ℕ, suc, ◌+◌, ◌<◌, ◌≡◌, List, [], ◌∷◌, ◌++◌, length, get_or, take, sym, ap, ◌∙◌, arith}
use Rattle.std.proofs.lemmas.List.{flat_map_more, take_more, append-nil}
use Rattle.std.specs.List.{flat_map, join_by}

module _ {X : Type 0} (f : X → List ℕ) (sep : List ℕ) where
  -- the first
  pub joined_first : (xs : List X) (d : X) → 0 < length xs → join_by f sep (take (0 + 1) xs) ≡ f (get_or xs 0 d)
  joined_first [] d lt = absurd (omega arith)
  joined_first (x ∷ xs) d lt = append-nil (f x)

  after : (xs : List X) (i : ℕ) (d : X) → suc i < length xs → join_by f sep (take (suc i) xs) ++ (sep ++ f (get_or xs (suc i) d)) ≡ join_by f sep (take (suc (i + 1)) xs)
  after [] i d lt = absurd (omega arith)
  after (x ∷ xs) i d lt = flat_map_more (λ y. sep ++ f y) (f x) (take i xs) (get_or xs i d) ∙ ap (λ l. f x ++ flat_map (λ y. sep ++ f y) l) (sym (take_more xs i d (omega arith)))

  -- one more
  pub joined_next : (xs : List X) (i : ℕ) (d : X) → i + 1 < length xs → join_by f sep (take (i + 1) xs) ++ (sep ++ f (get_or xs (i + 1) d)) ≡ join_by f sep (take (i + 1 + 1) xs)
  joined_next xs i d lt =
      ap (λ n. join_by f sep (take n xs) ++ (sep ++ f (get_or xs n d))) {x = i + 1} {y = suc i} (omega arith)
      ∙ after xs i d (omega arith) ∙ ap (λ n. join_by f sep (take n xs)) {x = suc (i + 1)} (omega arith)
