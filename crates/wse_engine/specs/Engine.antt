-- What contracts see of an engine. This project's own rule.
use Rattle.std.specs.Prelude.{ℕ, Option}
use Rattle.wse_path.specs.Versions.{Numbers}
use Rattle.wse_path.specs.declared.limits.Limits.{Limits}
use Rattle.wse_disk.specs.declared.area.Area.{Area}
use Rattle.wse_disk.specs.Standing.{Standing}
use Rattle.wse_disk.specs.Told.{IsTold, IsAtRest}
use Rattle.wse_element.specs.State.{State}
use Rattle.wse_txn.specs.Command.{IsAt}

-- The disk, its journal's area and closed gate, and of the history the state, the limits, and how often each path's history
-- turned. Which plan is reserved isn't seen.
pub record EngineNow (D : Type 0) : Type 0 where
  pub disk : D
  pub area : Area
  pub gate : ℕ
  pub state : State
  pub limits : Limits
  pub turned : Numbers

-- What the type keeps: nothing is pending, and what is read stands for the state, with this journal.
pub record IsEngine (told : Option Standing) (area : Area) (gate : ℕ) (s : State) : Type 0 where
  pub rests : IsAtRest told
  pub at : IsTold told → IsAt s area gate told
