-- What the report of a change by another program does. This project's own rule.
use Rattle.std.specs.Prelude.{List, [], ◌∷◌, ◌++◌, if◌then◌else◌}
use Rattle.std.specs.List.{list_any}
use Rattle.wse_path.specs.Path.{Path}
use Rattle.wse_path.specs.Tree.{content}
use Rattle.wse_path.specs.Changes.{is_same}
use Rattle.wse_path.specs.declared.limits.Limits.{Limits}
use Rattle.wse_element.specs.declared.effect.Effect.{Effect}
use Rattle.wse_element.specs.declared.effect.Effect.TheVariants.{Invalidate, Bump, Set}
use Rattle.wse_element.specs.Content.{Content}
use Rattle.wse_element.specs.Record.{Record}
use Rattle.wse_element.specs.Live.{is_valid_at}
use Rattle.wse_element.specs.State.{State}
use Rattle.wse_element.specs.Way.{in_the_way}
use Rattle.wse_history.specs.declared.answer.Answer.TheVariants.{Recorded, Same, OutsideInTheWay, Refused}
use Rattle.wse_history.specs.Outcome.{Outcome, stays, is_some_of, numbered}
use Rattle.wse_history.specs.Limits.{within_limits}

-- What is known of the path is no longer valid, if something was; the path has this content, and its version rises.
abbrev pub outside_effects : List Record → Path → Content → List Effect
outside_effects records p bytes =
    (if list_any (is_valid_at p) records then Invalidate p ∷ [] else []) ++ (Set p bytes ∷ Bump p 1 ∷ [])

-- A content that the path has already changes nothing. Locks don't matter.
abbrev pub outside_outcome : Limits → State → Path → Content → Outcome
outside_outcome limits s p bytes =
    let blocking = in_the_way s.files ((p, bytes) ∷ []) in
    if is_same (content s.files p) bytes then stays Same
    else (if is_some_of blocking then stays (OutsideInTheWay blocking)
    else within_limits limits s (outside_effects s.records p bytes) (λ hit. Refused hit) (λ next. Recorded (numbered next (p ∷ []))))
