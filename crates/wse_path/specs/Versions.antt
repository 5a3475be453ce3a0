-- Versions of paths: finite maps from paths to numbers.
use Rattle.std.specs.Prelude.{◌≡◌, ℕ, ◌+◌, ◌-◌, ◌^◌, ◌<◌, min, true, List, [], ◌∷◌, length, All, sum_by}
use Rattle.std.specs.FinMap.{find, put, is_sorted}
use Rattle.std.specs.Option.{unwrap_or}
use Rattle.std.specs.Prelude.{Bool, nat_eq, ◌&&◌}
use Rattle.std.specs.Cmp.{IsPartialEquivalence, and_per, on_per, partial_equiv_from_equiv, nat_eq_equiv}
use Rattle.std.specs.Cmp.Lexicographic.{pointwise, lists_per, lists_equiv, nat_list_eq_equiv}
use Rattle.wse_path.specs.Path.{Path, text_of}
use Rattle.wse_path.specs.Order.{path_cmp}

-- The entries in path order.
abbrev pub Numbers : Type 0
Numbers = List (Path × ℕ)

-- The entries, that their paths rise and no number is 0, and how many more find room without taking memory.
pub record VersionsState : Type 0 where
  pub entries : Numbers
  pub rises : is_sorted path_cmp entries ≡ true
  pub some : All (λ e. 0 < e.1) entries
  pub spare : ℕ

-- The version of a path: 0 where it has no entry.
abbrev pub version_of : Numbers → Path → ℕ
version_of entries p = unwrap_or (find path_cmp p entries) 0

-- The path's version raised, and all else as it is.
abbrev pub bumped : Numbers → Path → ℕ → Numbers
bumped entries p by = put path_cmp p (version_of entries p + by) entries

-- The versions with each of these raised, one after another.
abbrev pub bumped_by : List (Path × ℕ) → Numbers → Numbers
bumped_by [] entries = entries
bumped_by (b ∷ more) entries = bumped_by more (bumped entries b.0 b.1)

-- What the entries count for, or 2^64-1 where that is greater: for each path 32, and the bytes of its text. This project's
-- own rule.
abbrev pub known : Numbers → ℕ
known entries = min (sum_by (λ e. 32 + length (text_of e.0)) entries) (2 ^ 64 - 1)

-- The same entries: equal paths with equal numbers.
abbrev pub same_entries : Numbers → Numbers → Bool
same_entries = pointwise (λ a b. pointwise (pointwise nat_eq) a.0 b.0 && nat_eq a.1 b.1)

pub same_entries_laws : IsPartialEquivalence same_entries
same_entries_laws = lists_per (and_per (on_per (λ e. e.0) (partial_equiv_from_equiv (lists_equiv nat_list_eq_equiv))) (on_per (λ e. e.1) (partial_equiv_from_equiv nat_eq_equiv)))
