-- Paths at which the tree isn't as the records say. This project's own rule.
use Rattle.std.specs.Prelude.{◌≡◌, Bool, true, not, ◌&&◌, List}
use Rattle.std.specs.FinMap.{is_sorted}
use Rattle.std.specs.Option.{option_map_or}
use Rattle.wse_path.specs.Path.{Path}
use Rattle.wse_path.specs.Order.{path_cmp, is_named}
use Rattle.wse_path.specs.Tree.{Entries, content}
use Rattle.wse_element.specs.Content.{Content}
use Rattle.wse_element.specs.Record.{Record}
use Rattle.wse_element.specs.Stacks.{closest_past, closest_future}
use Rattle.wse_element.specs.Linked.{is_left_by, is_found_by}
use Rattle.wse_stacks.specs.Paths.{keyed}

-- The content is what the closest past left at the path, and what the closest future found there, where these are valid.
abbrev pub is_as_recorded : Content → List Record → Path → Bool
is_as_recorded content records p =
    option_map_or (is_left_by p content) (closest_past records p) true
    && option_map_or (is_found_by p content) (closest_future records p) true

-- The path isn't as the records say.
abbrev pub differs : Entries → List Record → Path → Bool
differs files records p = not (is_as_recorded (content files p) records p)

-- The paths rise, and are those that aren't as the records say.
pub record AreDiffering (files : Entries) (records : List Record) (paths : List Path) : Type 0 where
  pub rise : is_sorted path_cmp (keyed paths) ≡ true
  pub each : (p : Path) → is_named paths p ≡ differs files records p
