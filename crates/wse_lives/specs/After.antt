-- Lives from events, the last one first.
use Rattle.std.specs.Prelude.{◌≡◌, ⊤, List, [], ◌∷◌, None}
use Rattle.wse_path.specs.Tree.{IsTree}
use Rattle.wse_path.specs.declared.limits.Limits.{Limits}
use Rattle.wse_element.specs.State.{State}
use Rattle.wse_apply.specs.Limit.{limit_hit}
use Rattle.wse_history.specs.Limits.{serial_hit, known_hit}
use Rattle.wse_history.specs.Step.{step}
use Rattle.wse_lives.specs.Lives.{Life}
use Rattle.wse_lives.specs.Events.{Event, left_by_events, states_of}
use Rattle.wse_lives.specs.Events.Event.{Does, Stops, StopsIn, Finds}
use Rattle.wse_lives.specs.Adopt.{adopted}

-- The state that the events leave, and those that each left.
abbrev pub left_after : Limits → State → List Event → State
left_after limits start events = left_by_events (step limits) adopted start events

abbrev pub life_of : Limits → State → List Event → Life
life_of limits start events = states_of (step limits) adopted start events

-- The state passes neither the limit on serial numbers nor that on what is known.
abbrev pub PassesNone : Limits → State → Type 0
PassesNone limits s = (serial_hit limits s ≡ None) × (known_hit limits s ≡ None)

-- What is found is a tree that passes no limit, and the state after it passes none.
abbrev pub IsLived : Limits → State → List Event → Type 0
IsLived limits start [] = ⊤
IsLived limits start (Does command ∷ earlier) = IsLived limits start earlier
IsLived limits start (Stops ∷ earlier) = IsLived limits start earlier
IsLived limits start (StopsIn command ∷ earlier) = IsLived limits start earlier
IsLived limits start (Finds files ∷ earlier) =
    IsTree files × (limit_hit limits files ≡ None) × PassesNone limits (adopted (record (left_after limits start earlier) { files = files })) × IsLived limits start earlier
