-- Where searches in a list of records look. This project's own rule.
use Rattle.std.specs.Prelude.{◌≡◌, ℕ, Bool, List, Option, Some, option_map, slice_get, if◌then◌else◌}
use Rattle.std.specs.List.{list_any}
use Rattle.std.specs.Str.{bytes_eq}
use Rattle.std.specs.Cmp.Lexicographic.{pointwise}
use Rattle.wse_path.specs.Path.{Path}
use Rattle.wse_element.specs.Record.{Record}
use Rattle.wse_element.specs.Stacks.{has_id}
use Rattle.wse_stacks.specs.Fits.{last_live}

-- The test by which maps find a path.
abbrev pub path_eq : Path → Path → Bool
path_eq = pointwise bytes_eq

-- This place where the test passes, and else the place before.
abbrev pub noted : Bool → ℕ → Option ℕ → Option ℕ
noted here at before = if here then Some at else before

-- The first tells which ids the records have, and the second at which place the last record stands that is live at a path.
pub record AreIndexed (records : List Record) (has : ℕ → Bool) (last : Path → Option ℕ) : Type 0 where
  pub ids : (id : ℕ) → has id ≡ list_any (has_id id) records
  pub places : (p : Path) → option_map (slice_get records) (last p) ≡ option_map Some (last_live records p)
