-- Paths that are to be set, each with whether it is made present. This project's own rule.
use Rattle.std.specs.Prelude.{Bool, not, ◌&&◌, ◌||◌, List, map, filter}
use Rattle.std.specs.List.{list_any}
use Rattle.std.specs.Ordering.{eq_by_cmp}
use Rattle.wse_path.specs.Path.{Path, is_under}
use Rattle.wse_path.specs.Order.{path_cmp}
use Rattle.wse_path.specs.Tree.{Entries}
use Rattle.wse_element.specs.Content.{Content}
use Rattle.wse_element.specs.Way.{comes}

abbrev pub marks_of : List (Path × Content) → List (Path × Bool)
marks_of contents = map (λ c. (c.0, comes c)) contents

-- The path is one of those that are set.
abbrev pub is_marked : List (Path × Bool) → Path → Bool
is_marked marks p = list_any (λ m. eq_by_cmp path_cmp p m.0) marks

-- The path is above or under one that is made present.
abbrev pub is_near_marked : List (Path × Bool) → Path → Bool
is_near_marked marks p = list_any (λ m. m.1 && (is_under p m.0 || is_under m.0 p)) marks

-- The files outside these paths that are above or under one that is made present, in path order.
abbrev pub marked_in_the_way : Entries → List (Path × Bool) → List Path
marked_in_the_way files marks = filter (λ p. not (is_marked marks p) && is_near_marked marks p) (map (λ e. e.0) files)
