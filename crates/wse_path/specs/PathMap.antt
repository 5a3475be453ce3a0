-- Finite maps from paths: entries whose paths rise. Trees, versions and locks are such maps.
use Rattle.std.specs.Prelude.{◌≡◌, ℕ, ◌-◌, ◌^◌, min, true, not, List, [], ◌∷◌, Option, Some, None, sum_by}
use Rattle.std.specs.FinMap.{find, put, is_sorted}
use Rattle.std.specs.FinMap.Entries.{where_key}
use Rattle.std.specs.Ordering.{eq_by_cmp}
use Rattle.wse_path.specs.Path.{Path}
use Rattle.wse_path.specs.Order.{path_cmp}

-- The entries in path order, and how many more find room without taking memory.
pub record MapState (V : Type 0) : Type 0 where
  pub entries : List (Path × V)
  pub rises : is_sorted path_cmp entries ≡ true
  pub spare : ℕ

-- Entries in a row, and how many the row holds without taking memory.
pub record RowState (V : Type 0) : Type 0 where
  pub items : List (Path × V)
  pub capacity : ℕ

-- What the entries count for together.
abbrev pub weight_of : {V : Type 0} → (Path → V → ℕ) → List (Path × V) → ℕ
weight_of weight entries = sum_by (λ e. weight e.0 e.1) entries

-- The number, or the largest of 64 bits where it is greater.
abbrev pub capped : ℕ → ℕ
capped n = min n (2 ^ 64 - 1)

-- The value at a path.
abbrev pub value_at : {V : Type 0} → List (Path × V) → Path → Option V
value_at entries p = find path_cmp p entries

-- The entries but for the one at the path.
abbrev pub without : {V : Type 0} → List (Path × V) → Path → List (Path × V)
without entries p = where_key path_cmp (λ q. not (eq_by_cmp path_cmp p q)) entries

-- The entries with this value at the path, or without the path where there is none.
abbrev pub set_value : {V : Type 0} → List (Path × V) → Path → Option V → List (Path × V)
set_value entries p None = without entries p
set_value entries p (Some v) = put path_cmp p v entries

-- All of these put, one after another.
abbrev pub put_each : {X : Type 0} → List (Path × X) → List (Path × X) → List (Path × X)
put_each [] entries = entries
put_each (e ∷ more) entries = put_each more (put path_cmp e.0 e.1 entries)

-- Each path gets what its item makes of the value there, one after another.
abbrev pub update_all : {C V : Type 0} → (C → Option V → Option V) → List (Path × C) → List (Path × V) → List (Path × V)
update_all updated [] entries = entries
update_all updated (c ∷ cs) entries = update_all updated cs (set_value entries c.0 (updated c.1 (value_at entries c.0)))
