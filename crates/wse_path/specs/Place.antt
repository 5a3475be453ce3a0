-- A key's place in a list of entries.
use Rattle.std.specs.Prelude.{◌≡◌, ℕ, ◌<◌, ◌≤◌, ◌&&◌, Bool, true, List, [], ◌∷◌, length, slice_index_or}
use Rattle.std.specs.Ordering.{is_lt}
use Rattle.std.specs.declared.cmp.Ordering.{Ordering}
use Rattle.std.specs.declared.cmp.Ordering.TheVariants.{Less, Equal, Greater}

-- The entry at i has the key.
abbrev pub HasKeyAt : {K X : Type 0} → (K → K → Ordering) → List (K × X) → K → ℕ → Type 0
HasKeyAt R es k i = (d : _) → R (slice_index_or es i d).0 k ≡ Equal

-- Smaller keys stand before i, and greater ones from it on.
pub record IsGapAt {K X : Type 0} (R : K → K → Ordering) (es : List (K × X)) (k : K) (i : ℕ) : Type 0 where
  pub within : i ≤ length es
  pub smaller : (j : ℕ) (d : K × X) → j < i → R (slice_index_or es j d).0 k ≡ Less
  pub greater : (j : ℕ) (d : K × X) → i ≤ j → j < length es → R (slice_index_or es j d).0 k ≡ Greater

-- Each entry's key is smaller.
abbrev pub all_before : {K X : Type 0} → (K → K → Ordering) → List (K × X) → K → Bool
all_before R [] k = true
all_before R (e ∷ es) k = is_lt (R e.0 k) && all_before R es k
