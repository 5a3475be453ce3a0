-- What forgetting a path's history does. This project's own rule.
use Rattle.std.specs.Prelude.{[], ◌∷◌, if◌then◌else◌}
use Rattle.std.specs.List.{list_any}
use Rattle.wse_path.specs.Path.{Path}
use Rattle.wse_path.specs.declared.limits.Limits.{Limits}
use Rattle.wse_element.specs.declared.state.PartState.TheVariants.{Closed}
use Rattle.wse_element.specs.declared.effect.Effect.TheVariants.{Drop}
use Rattle.wse_element.specs.Live.{is_live_at}
use Rattle.wse_element.specs.State.{State}
use Rattle.wse_history.specs.declared.answer.Answer.TheVariants.{Refused, Forgotten, NothingThere}
use Rattle.wse_history.specs.Outcome.{Outcome, stays}
use Rattle.wse_history.specs.Limits.{within_limits}

-- All live parts at the path are closed, if there are any.
abbrev pub forget_outcome : Limits → State → Path → Outcome
forget_outcome limits s p =
    if list_any (is_live_at p) s.records then within_limits limits s (Drop p Closed ∷ []) (λ hit. Refused hit) (λ next. Forgotten)
    else stays NothingThere
