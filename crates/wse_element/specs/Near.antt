-- Paths that rise, and which of them are under their neighbours. This project's own rule.
use Rattle.std.specs.Prelude.{Bool, true, false, not, ◌&&◌, Option, None, Some, List, [], ◌∷◌}
use Rattle.std.specs.List.{list_all}
use Rattle.std.specs.Ordering.{is_lt}
use Rattle.wse_path.specs.Path.{Path, is_under}
use Rattle.wse_path.specs.Order.{path_cmp}

-- Each path is smaller than all behind it.
abbrev pub rise : List Path → Bool
rise [] = true
rise (p ∷ more) = list_all (λ q. is_lt (path_cmp p q)) more && rise more

-- None of the paths is under the one right before it, the first one not under this one.
abbrev pub near_apart : Path → List Path → Bool
near_apart p [] = true
near_apart p (q ∷ more) = not (is_under q p) && near_apart q more

abbrev pub neighbours_apart : List Path → Bool
neighbours_apart [] = true
neighbours_apart (p ∷ more) = near_apart p more

-- The same behind the last path, if there is one.
abbrev pub near_from : Option Path → List Path → Bool
near_from None paths = neighbours_apart paths
near_from (Some p) paths = near_apart p paths

abbrev pub under_last : Option Path → Path → Bool
under_last None p = false
under_last (Some q) p = is_under p q
