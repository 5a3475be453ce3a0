-- A list of effects that is tried one by one. This project's own rule.
use Rattle.std.specs.Prelude.{ℕ, suc, Bool, false, not, ◌&&◌, ◌||◌, List, [], ◌∷◌, ◌++◌, map, Option, Some, None, option_map, if◌then◌else◌}
use Rattle.std.specs.Option.{option_map_or}
use Rattle.wse_path.specs.Path.{Path}
use Rattle.wse_element.specs.declared.effect.Effect.{Effect}
use Rattle.wse_element.specs.declared.effect.Effect.TheVariants.{Push, MoveBack, MoveForward, Split, Drop, Invalidate, Bump, Set}
use Rattle.wse_element.specs.Record.{Record}
use Rattle.wse_element.specs.Stacks.{record_of}
use Rattle.wse_element.specs.State.{StacksState}
use Rattle.wse_element.specs.Effects.{after, begun}
use Rattle.wse_element.specs.Applicable.{sets_tree, is_applicable}

-- What the effects so far leave, where the serial number counts the command; whether one of them sets paths of the tree; and the
-- paths whose history they may have changed.
pub record DraftState : Type 0 where
  pub state : StacksState
  pub sets : Bool
  pub touched : List Path

abbrev pub paths_of : Record → List Path
paths_of r = map (λ part. part.path) r.parts

-- The paths whose history an effect may change.
abbrev pub touched_by : List Record → Effect → List Path
touched_by records (Push element) = paths_of element
touched_by records (MoveBack id) = option_map_or paths_of (record_of records id) []
touched_by records (MoveForward id) = option_map_or paths_of (record_of records id) []
touched_by records (Split id first) = option_map_or paths_of (record_of records id) []
touched_by records (Drop path reason) = path ∷ []
touched_by records (Invalidate path) = path ∷ []
touched_by records (Bump path by) = []
touched_by records (Set path content) = []

abbrev pub next_draft : DraftState → Effect → DraftState
next_draft d effect = record {
  state = after d.state effect;
  sets = d.sets || sets_tree effect;
  touched = d.touched ++ touched_by d.state.records effect;
}

-- One after another.
abbrev pub next_drafts : DraftState → List Effect → DraftState
next_drafts d [] = d
next_drafts d (effect ∷ more) = next_drafts (next_draft d effect) more

-- The effect is applicable behind those so far.
abbrev pub is_next : DraftState → Effect → Bool
is_next d effect = not (sets_tree effect && d.sets) && is_applicable d.state effect

-- The place of the first effect that isn't applicable behind those before it.
abbrev pub first_stop : DraftState → List Effect → Option ℕ
first_stop d [] = None
first_stop d (effect ∷ more) = if is_next d effect then option_map suc (first_stop (next_draft d effect) more) else Some 0

-- Nothing of the command is done yet, but it is counted.
abbrev pub begun_draft : StacksState → DraftState
begun_draft h = record { state = begun h; sets = false; touched = [] }
