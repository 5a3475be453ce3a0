-- Adopting: what the tree holds becomes the history's own. This project's own rule.
use Rattle.std.specs.Prelude.{Bool, true, not, ◌&&◌, List, [], ◌∷◌, map, filter}
use Rattle.std.specs.Option.{option_map_or}
use Rattle.wse_path.specs.Path.{Path}
use Rattle.wse_path.specs.Tree.{Entries, content}
use Rattle.wse_path.specs.PathMap.{put_each}
use Rattle.wse_element.specs.declared.effect.Effect.{Effect}
use Rattle.wse_element.specs.declared.effect.Effect.TheVariants.{Invalidate, Bump}
use Rattle.wse_element.specs.Record.{Record}
use Rattle.wse_element.specs.Live.{live_parts}
use Rattle.wse_element.specs.Stacks.{closest_past, closest_future}
use Rattle.wse_element.specs.Linked.{is_left_by, is_found_by}
use Rattle.wse_element.specs.State.{State}
use Rattle.wse_history.specs.Step.{recorded}

-- The tree is what the valid closest past left at the path, and what the valid closest future found.
abbrev pub agrees_there : Entries → List Record → Path → Bool
agrees_there files records p =
    option_map_or (is_left_by p (content files p)) (closest_past records p) true
    && option_map_or (is_found_by p (content files p)) (closest_future records p) true

-- The paths at which the record is live.
abbrev pub live_entries : Record → List (Path × Bool)
live_entries r = map (λ part. (part.path, true)) (live_parts r)

abbrev pub with_live : List Record → List (Path × Bool) → List (Path × Bool)
with_live [] entries = entries
with_live (r ∷ more) entries = with_live more (put_each (live_entries r) entries)

-- The paths at which records are live, in path order.
abbrev pub live_paths : List Record → List Path
live_paths records = map (λ e. e.0) (with_live records [])

-- The paths at which the tree differs, in path order.
abbrev pub differing : State → List Path
differing s = filter (λ p. not (agrees_there s.files s.records p)) (live_paths s.records)

abbrev pub adopt_each : List Path → List Effect
adopt_each [] = []
adopt_each (p ∷ more) = Invalidate p ∷ Bump p 1 ∷ adopt_each more

-- The state with its tree as it was found.
abbrev pub adopted : State → State
adopted s = recorded s (adopt_each (differing s))
