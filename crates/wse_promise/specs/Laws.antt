-- What holds of the definitions.
use Rattle.std.specs.Prelude.{◌≡◌, ℕ, List, take}
use Rattle.wse_element.specs.State.{State}
use Rattle.wse_history.specs.History.{IsHistory}
use Rattle.wse_store.specs.Store.{Setting}
use Rattle.wse_lives.specs.After.{left_after, IsLived}
use Rattle.wse_promise.specs.Fronts.{behind, events_of}
use Rattle.wse_promise.specs.Work.{KeepsWork}

-- The commands among the first lines are events, and the life of these leaves the state behind the lines, which the type of
-- histories keeps where it keeps the first one.
pub record IsFrontLived (setting : Setting) (first : State) (lines : List (List ℕ)) (count : ℕ) : Type 0 where
  pub lived : IsLived setting.limits first (events_of setting (take count lines))
  pub same : left_after setting.limits first (events_of setting (take count lines)) ≡ behind setting first lines count
  pub sound : IsHistory first setting.limits → IsHistory (behind setting first lines count) setting.limits

abbrev pub LinesAreEvents : Type 0
LinesAreEvents = (setting : Setting) (first : State) (lines : List (List ℕ)) (count : ℕ) → IsFrontLived setting first lines count

-- Over the lines of a run that begins in a state which the type of histories keeps, no undo destroys work which its record
-- didn't make.
abbrev pub UndoesOverLines : Type 0
UndoesOverLines = (setting : Setting) (first : State) (lines : List (List ℕ)) → IsHistory first setting.limits → KeepsWork setting first lines
