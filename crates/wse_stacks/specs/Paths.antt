-- The paths at which records are live. This project's own rule.
use Rattle.std.specs.Prelude.{◌≡◌, true, List, map}
use Rattle.std.specs.List.{list_any}
use Rattle.std.specs.FinMap.{is_sorted}
use Rattle.wse_path.specs.Path.{Path}
use Rattle.wse_path.specs.Order.{path_cmp, is_named}
use Rattle.wse_path.specs.Versions.{Numbers}
use Rattle.wse_element.specs.Record.{Record}
use Rattle.wse_element.specs.Live.{is_live_at}

-- The paths as entries.
abbrev pub keyed : List Path → Numbers
keyed paths = map (λ p. (p, 0)) paths

-- The paths rise, and are those at which one of the records is live.
pub record AreLivePaths (records : List Record) (paths : List Path) : Type 0 where
  pub rise : is_sorted path_cmp (keyed paths) ≡ true
  pub each : (p : Path) → is_named paths p ≡ list_any (is_live_at p) records
