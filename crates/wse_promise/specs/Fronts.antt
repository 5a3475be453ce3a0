-- The states of a store behind fronts of lines, and the life that a front is. This project's own rule.
use Rattle.std.specs.Prelude.{ℕ, List, [], ◌∷◌, Result, Ok, Err, take, if◌then◌else◌}
use Rattle.wse_path.specs.declared.command.Command.{Command}
use Rattle.wse_element.specs.State.{State}
use Rattle.wse_json.specs.Commands.{command_in}
use Rattle.wse_json.specs.declared.shape.Shape.{Shape}
use Rattle.wse_stream.specs.Machine.{state_after}
use Rattle.wse_store.specs.Store.{Setting, is_too_long, serving}
use Rattle.wse_lives.specs.Events.{Event}
use Rattle.wse_lives.specs.Events.Event.{Does}

-- The state behind the first `count` lines. So the line that comes behind k others finds that behind k lines, and leaves that
-- behind k + 1.
abbrev pub behind : Setting → (first : State) → List (List ℕ) → (count : ℕ) → State
behind setting first lines count = state_after (serving setting) first (take count lines)

-- A command is an event. A line that is none is no event: it leaves the state as it is.
abbrev pub with_command : Result Command Shape → List Event → List Event
with_command (Ok command) earlier = Does command ∷ earlier
with_command (Err why) earlier = earlier

abbrev pub with_line : Setting → List ℕ → List Event → List Event
with_line setting line earlier = if is_too_long line then earlier else with_command (command_in setting.root line) earlier

-- The events that the lines are behind earlier ones, the last one first.
abbrev pub with_lines : Setting → List (List ℕ) → List Event → List Event
with_lines setting [] earlier = earlier
with_lines setting (line ∷ lines) earlier = with_lines setting lines (with_line setting line earlier)

abbrev pub events_of : Setting → List (List ℕ) → List Event
events_of setting lines = with_lines setting lines []
