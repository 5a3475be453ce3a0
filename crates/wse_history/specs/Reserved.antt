-- What is reserved for a plan. This project's own rule.
use Rattle.std.specs.Prelude.{◌≡◌, ℕ, ◌≤◌, List, [], length, vec_capacity, Option, Some, None, option_map, ⊤}
use Rattle.wse_path.specs.declared.limits.Limits.{Limits}
use Rattle.wse_element.specs.declared.effect.Effect.{Effect}
use Rattle.wse_element.specs.declared.plan.Plan.{Plan}
use Rattle.wse_element.specs.State.{State}
use Rattle.wse_history.specs.declared.room.Room.{Room}
use Rattle.wse_history.specs.Planning.{bumps_in, plan_of, MayRecord}

-- The plan that is reserved: the one with the effects that the stacks have prepared, where room is made for it.
abbrev pub reserved_in : State → Option (List Effect) → Option Room → Option Plan
reserved_in s prepared None = None
reserved_in s prepared (Some room) = option_map (plan_of s) prepared

-- The effects are prepared, there is room for what they set in the tree, of which this much is in the tree itself, and for the
-- versions that they raise.
pub record IsReady (limits : Limits) (s : State) (prepared : Option (List Effect)) (files_room versions_room : ℕ) (room : Room) : Type 0 where
  pub effects : List Effect
  pub prepared_for : prepared ≡ Some effects
  pub may : MayRecord limits s (plan_of s effects)
  pub none : room.contents.items ≡ []
  pub contents : length (plan_of s effects).changes ≤ vec_capacity room.contents
  pub files : length (plan_of s effects).changes ≤ files_room
  pub bumps : room.bumps.items ≡ bumps_in effects
  pub versions : length room.bumps.items ≤ versions_room

abbrev pub IsReadyIfAny : Limits → State → Option (List Effect) → (files_room versions_room : ℕ) → Option Room → Type 0
IsReadyIfAny limits s prepared files_room versions_room None = ⊤
IsReadyIfAny limits s prepared files_room versions_room (Some room) = IsReady limits s prepared files_room versions_room room
