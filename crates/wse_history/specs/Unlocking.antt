-- What giving locks back does. This project's own rule.
use Rattle.std.specs.Prelude.{ℕ, not, List, [], ◌∷◌, find}
use Rattle.std.specs.Option.{option_map_or}
use Rattle.wse_path.specs.Path.{Path}
use Rattle.wse_path.specs.PathMap.{without}
use Rattle.wse_locks.specs.Locks.{Holders, holds}
use Rattle.wse_element.specs.State.{State}
use Rattle.wse_history.specs.declared.answer.Answer.TheVariants.{Freed, NotHeld}
use Rattle.wse_history.specs.Outcome.{Outcome, stays, locks_as}

-- The locks without these paths.
abbrev pub freed_each : List Path → Holders → Holders
freed_each [] locks = locks
freed_each (p ∷ more) locks = freed_each more (without locks p)

-- All the paths are free, unless the participant doesn't hold one of them.
abbrev pub unlock_outcome : State → (by : ℕ) → List Path → Outcome
unlock_outcome s by files =
    option_map_or (λ p. stays (NotHeld p)) (find (λ p. not (holds s.locks by p)) files) (locks_as (freed_each files s.locks) Freed)
