-- Limits of the state that a command would leave. This project's own rule.
use Rattle.std.specs.Prelude.{◌-◌, ◌^◌, min, List, Option, None, if◌then◌else◌}
use Rattle.std.specs.List.{list_any}
use Rattle.std.specs.Option.{option_or, option_map_or}
use Rattle.wse_path.specs.Versions.{known}
use Rattle.wse_path.specs.declared.limits.Hit.{Hit}
use Rattle.wse_path.specs.declared.limits.Limits.{Limits}
use Rattle.wse_path.specs.declared.limits.Which.TheVariants.{Known, Weight, Serial}
use Rattle.wse_element.specs.declared.effect.Effect.{Effect}
use Rattle.wse_element.specs.State.{State}
use Rattle.wse_element.specs.Effects.{state_after}
use Rattle.wse_element.specs.Applicable.{sets_tree}
use Rattle.wse_element.specs.Weight.{weight}
use Rattle.wse_apply.specs.Limit.{hit_above, limit_hit}
use Rattle.wse_history.specs.declared.answer.Answer.{Answer}
use Rattle.wse_history.specs.Outcome.{Outcome, stays, records}

abbrev pub serial_hit : Limits → State → Option Hit
serial_hit limits s = hit_above Serial limits.serial s.serial

abbrev pub known_hit : Limits → State → Option Hit
known_hit limits s = hit_above Known limits.known (known s.versions)

-- What records count for together, or 2^64-1 where that is more.
abbrev pub weight_hit : Limits → State → Option Hit
weight_hit limits s = hit_above Weight limits.weight (min (weight s.records) (2 ^ 64 - 1))

-- Of a command that isn't an edit: the serial number, and where its effects set the tree also what is known, and the tree's
-- own limits.
abbrev pub hit_of : Limits → List Effect → State → Option Hit
hit_of limits effects next =
    option_or (serial_hit limits next)
    (if list_any sets_tree effects then option_or (known_hit limits next) (limit_hit limits next.files) else None)

-- The effects are recorded, unless the state that they leave would pass a limit.
abbrev pub within_limits : Limits → State → List Effect → (Hit → Answer) → (State → Answer) → Outcome
within_limits limits s effects refused done =
    let next = state_after s effects in
    option_map_or (λ hit. stays (refused hit)) (hit_of limits effects next) (records effects (done next))
