-- The events of a life. What a command does and what adopting does are given.
use Rattle.std.specs.Prelude.{List, [], ◌∷◌, map}
use Rattle.wse_path.specs.Tree.{Entries}
use Rattle.wse_path.specs.declared.command.Command.{Command}
use Rattle.wse_element.specs.State.{State}
use Rattle.wse_lives.specs.Lives.{Life}

-- A command, a stop, a command that was interrupted and done whole, or a tree that is found at a start.
pub data Event : Type 0 where
  Does : (command : Command) → Event
  Stops : Event
  StopsIn : (command : Command) → Event
  Finds : (files : Entries) → Event

abbrev pub without_locks : State → State
without_locks s = record s { locks = [] }

-- The state that an event leaves.
abbrev pub left_by_event : (State → Command → State) → (State → State) → State → Event → State
left_by_event step adopted s (Does c) = step s c
left_by_event step adopted s Stops = without_locks s
left_by_event step adopted s (StopsIn c) = without_locks (step s c)
left_by_event step adopted s (Finds files) = without_locks (adopted (record s { files = files }))

-- A new history over a tree: each of its paths has version 1.
abbrev pub fresh : Entries → State
fresh files = record { files = files; versions = map (λ e. (e.0, 1)) files; records = []; next_id = 1; serial = 0; locks = [] }

-- The states that the events leave, both with the last one first.
abbrev pub left_by_events : (State → Command → State) → (State → State) → State → List Event → State
left_by_events step adopted start [] = start
left_by_events step adopted start (e ∷ earlier) = left_by_event step adopted (left_by_events step adopted start earlier) e

abbrev pub states_of : (State → Command → State) → (State → State) → State → List Event → Life
states_of step adopted start [] = []
states_of step adopted start (e ∷ earlier) = left_by_events step adopted start (e ∷ earlier) ∷ states_of step adopted start earlier
