-- Files in the way of contents that are to come. This project's own rule.
use Rattle.std.specs.Prelude.{Bool, not, ◌&&◌, ◌||◌, List, map, filter, is_some}
use Rattle.std.specs.List.{list_any}
use Rattle.std.specs.Ordering.{eq_by_cmp}
use Rattle.wse_path.specs.Path.{Path, is_under}
use Rattle.wse_path.specs.Order.{path_cmp}
use Rattle.wse_path.specs.Tree.{Entries}
use Rattle.wse_element.specs.Content.{Content}

-- The path is made present.
abbrev pub comes : Path × Content → Bool
comes c = is_some c.1

-- The path is one of those that are set.
abbrev pub is_set : List (Path × Content) → Path → Bool
is_set contents p = list_any (λ c. eq_by_cmp path_cmp p c.0) contents

-- The file is above or under a path that is made present.
abbrev pub is_between : List (Path × Content) → Path → Bool
is_between contents p = list_any (λ c. comes c && (is_under p c.0 || is_under c.0 p)) contents

-- The files outside these paths that are above or under one that is made present, in path order.
abbrev pub in_the_way : Entries → List (Path × Content) → List Path
in_the_way files contents = filter (λ p. not (is_set contents p) && is_between contents p) (map (λ e. e.0) files)

-- The paths that are made present.
abbrev pub coming : List (Path × Content) → List Path
coming contents = map (λ c. c.0) (filter comes contents)
