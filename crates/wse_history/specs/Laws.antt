-- What holds of the definitions.
use Rattle.std.specs.Prelude.{◌≡◌, ◌≢◌, List, [], None}
use Rattle.wse_path.specs.declared.command.Command.{Command}
use Rattle.wse_path.specs.declared.limits.Limits.{Limits}
use Rattle.wse_element.specs.declared.effect.Effect.{Effect}
use Rattle.wse_element.specs.State.{State, kept_of}
use Rattle.wse_element.specs.Effects.{state_after}
use Rattle.wse_element.specs.Applicable.{first_refused_of_kept}
use Rattle.wse_history.specs.History.{IsHistory}
use Rattle.wse_history.specs.Step.{outcome}

-- The effects are applicable in the state, and leave one that the type of histories keeps.
pub record MayApply (limits : Limits) (s : State) (effects : List Effect) : Type 0 where
  pub applicable : first_refused_of_kept (kept_of s) effects ≡ None
  pub state : IsHistory (state_after s effects) limits

-- What a command records in a linked state may come there, and leaves a linked state.
abbrev pub OutcomesMayApply : Type 0
OutcomesMayApply = (limits : Limits) (s : State) (command : Command) → IsHistory s limits
    → (outcome limits s command).effects ≢ [] → MayApply limits s (outcome limits s command).effects
