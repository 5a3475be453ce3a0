-- What a record's effects set in the tree, and of which elements they take it.
use Rattle.std.specs.Prelude.{◌≡◌, ℕ, Bool, true, false, ◌||◌, ◌==◌, List, filter, None}
use Rattle.std.specs.List.{list_any}
use Rattle.std.specs.FinMap.{is_sorted}
use Rattle.wse_path.specs.Path.{Path}
use Rattle.wse_path.specs.Order.{path_cmp}
use Rattle.wse_element.specs.declared.effect.Effect.{Effect}
use Rattle.wse_element.specs.declared.effect.Effect.TheVariants.{MoveBack, MoveForward, Split}
use Rattle.wse_element.specs.Content.{Content}
use Rattle.wse_element.specs.Record.{Record}
use Rattle.wse_element.specs.State.{StacksState, Kept, stacks_of}
use Rattle.wse_element.specs.Applicable.{sets_tree, first_refused_of_kept}
use Rattle.wse_element.specs.Apart.{are_apart}
use Rattle.wse_element.specs.Way.{coming}
use Rattle.wse_stacks.specs.Image.{IsSmall}

-- The paths rise, and none that is made present is under another.
pub record AreToCome (sets : List (Path × Content)) : Type 0 where
  pub rise : is_sorted path_cmp sets ≡ true
  pub apart : are_apart (coming sets) ≡ true

-- The effect moves or splits the element with the id.
abbrev pub is_meant : ℕ → Effect → Bool
is_meant id (MoveBack moved) = id == moved
is_meant id (MoveForward moved) = id == moved
is_meant id (Split whole first) = id == whole
is_meant id _ = false

-- The effect, or one of those before it, moves or splits the record.
abbrev pub is_meant_by : List Effect → Effect → Record → Bool
is_meant_by before effect r = list_any (is_meant r.id) before || is_meant r.id effect

abbrev pub meant : List Effect → Effect → List Record → List Record
meant before effect records = filter (is_meant_by before effect) records

-- The effect sets nothing in the tree, and a split's first id leaves room for the others.
pub record IsPlain (effect : Effect) : Type 0 where
  pub none : sets_tree effect ≡ false
  pub small : IsSmall effect

-- The effects are applicable here, whatever the versions are.
pub record MayEnter (h : StacksState) (effects : List Effect) : Type 0 where
  pub kept : Kept
  pub same : stacks_of kept ≡ h
  pub may : first_refused_of_kept kept effects ≡ None
