-- What an undo, a redo, a report and a forgetting record.
use Rattle.std.specs.Prelude.{◌≢◌, ℕ, []}
use Rattle.wse_path.specs.Path.{Path}
use Rattle.wse_path.specs.declared.command.Choice.{Choice}
use Rattle.wse_path.specs.declared.command.Direction.{Direction}
use Rattle.wse_path.specs.declared.limits.Limits.{Limits}
use Rattle.wse_element.specs.Content.{Content}
use Rattle.wse_element.specs.State.{State}
use Rattle.wse_history.specs.History.{IsHistory}
use Rattle.wse_history.specs.Laws.{MayApply}
use Rattle.wse_history.specs.Moves.{move_outcome}
use Rattle.wse_history.specs.Outsides.{outside_outcome}
use Rattle.wse_history.specs.Forgetting.{forget_outcome}

-- What an undo or a redo records may come, and leaves a state that the type of histories keeps.
abbrev pub MovesMayApply : Type 0
MovesMayApply = (limits : Limits) (s : State) (by : ℕ) (direction : Direction) (p : Path) (choice : Choice) → IsHistory s limits
    → (move_outcome limits s by direction p choice).effects ≢ [] → MayApply limits s (move_outcome limits s by direction p choice).effects

-- What is recorded of another program's change may come too.
abbrev pub OutsidesMayApply : Type 0
OutsidesMayApply = (limits : Limits) (s : State) (p : Path) (bytes : Content) → IsHistory s limits
    → (outside_outcome limits s p bytes).effects ≢ [] → MayApply limits s (outside_outcome limits s p bytes).effects

-- And what is recorded where a path's history is forgotten.
abbrev pub ForgetsMayApply : Type 0
ForgetsMayApply = (limits : Limits) (s : State) (p : Path) → IsHistory s limits
    → (forget_outcome limits s p).effects ≢ [] → MayApply limits s (forget_outcome limits s p).effects
