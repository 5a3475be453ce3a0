-- One step of the history: a command, what it leaves, and its answer. This project's own rule.
use Rattle.std.specs.Prelude.{List, Option, Some, None, if◌then◌else◌}
use Rattle.wse_path.specs.declared.command.Command.{Command}
use Rattle.wse_path.specs.declared.command.Command.TheVariants.{Edit, Move, Lock, Unlock, Leave, Outside, Forget, Look}
use Rattle.wse_path.specs.declared.limits.Limits.{Limits}
use Rattle.wse_locks.specs.Locks.{Holders}
use Rattle.wse_element.specs.declared.effect.Effect.{Effect}
use Rattle.wse_element.specs.State.{State}
use Rattle.wse_element.specs.Effects.{state_after}
use Rattle.wse_history.specs.Outcome.{Outcome, is_some_of}
use Rattle.wse_history.specs.Edits.{edit_outcome}
use Rattle.wse_history.specs.Moves.{move_outcome}
use Rattle.wse_history.specs.Locking.{lock_outcome}
use Rattle.wse_history.specs.Unlocking.{unlock_outcome}
use Rattle.wse_history.specs.Leaving.{leave_outcome}
use Rattle.wse_history.specs.Outsides.{outside_outcome}
use Rattle.wse_history.specs.Forgetting.{forget_outcome}
use Rattle.wse_history.specs.Looking.{look_outcome}

-- What the command does in the state, and its answer.
abbrev pub outcome : Limits → State → Command → Outcome
outcome limits s (Edit by edit) = edit_outcome limits s by edit
outcome limits s (Move by direction p choice) = move_outcome limits s by direction p choice
outcome limits s (Lock by files) = lock_outcome s by files
outcome limits s (Unlock by files) = unlock_outcome s by files
outcome limits s (Leave by) = leave_outcome s by
outcome limits s (Outside p bytes) = outside_outcome limits s p bytes
outcome limits s (Forget p) = forget_outcome limits s p
outcome limits s (Look p) = look_outcome s p

-- The state after effects of one command, which is the same where there are none.
abbrev pub recorded : State → List Effect → State
recorded s effects = if is_some_of effects then state_after s effects else s

abbrev pub with_locks : Option Holders → State → State
with_locks None s = s
with_locks (Some locks) s = record s { locks = locks }

-- What an outcome leaves of the state.
abbrev pub left : State → Outcome → State
left s o = with_locks o.locks (recorded s o.effects)

-- The state after the command.
abbrev pub step : Limits → State → Command → State
step limits s command = left s (outcome limits s command)
