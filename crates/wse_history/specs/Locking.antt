-- What taking locks does. This project's own rule.
use Rattle.std.specs.Prelude.{ℕ, List, [], ◌∷◌, if◌then◌else◌}
use Rattle.std.specs.FinMap.{put}
use Rattle.wse_path.specs.Path.{Path}
use Rattle.wse_path.specs.Order.{path_cmp}
use Rattle.wse_locks.specs.Locks.{Holders, held}
use Rattle.wse_element.specs.State.{State}
use Rattle.wse_history.specs.declared.answer.Answer.TheVariants.{Taken, Held}
use Rattle.wse_history.specs.Outcome.{Outcome, stays, locks_as, is_some_of}

-- The locks with each of these paths given to the participant.
abbrev pub given_each : (by : ℕ) → List Path → Holders → Holders
given_each by [] locks = locks
given_each by (p ∷ more) locks = given_each by more (put path_cmp p by locks)

-- All the paths are given to the participant, unless others hold some of them.
abbrev pub lock_outcome : State → (by : ℕ) → List Path → Outcome
lock_outcome s by files =
    if is_some_of (held s.locks by files) then stays (Held (held s.locks by files)) else locks_as (given_each by files s.locks) Taken
