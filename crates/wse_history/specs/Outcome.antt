-- What a command does, and its answer. All this is this project's own.
use Rattle.std.specs.Prelude.{Bool, true, false, List, [], ◌∷◌, map, Option, Some, None}
use Rattle.wse_path.specs.Path.{Path}
use Rattle.wse_path.specs.Versions.{version_of}
use Rattle.wse_path.specs.declared.change.Numbered.{Numbered}
use Rattle.wse_locks.specs.Locks.{Holders}
use Rattle.wse_element.specs.declared.effect.Effect.{Effect}
use Rattle.wse_element.specs.declared.effect.Effect.TheVariants.{Bump}
use Rattle.wse_element.specs.State.{State}
use Rattle.wse_history.specs.declared.answer.Answer.{Answer}

-- The effects that are recorded, none where nothing is; the locks where they change; and the answer.
pub record Outcome : Type 0 where
  pub effects : List Effect
  pub locks : Option Holders
  pub answer : Answer

-- Nothing changes.
abbrev pub stays : Answer → Outcome
stays answer = record { effects = []; locks = None; answer = answer }

-- These effects are recorded.
abbrev pub records : List Effect → Answer → Outcome
records effects answer = record { effects = effects; locks = None; answer = answer }

-- Only the locks change.
abbrev pub locks_as : Holders → Answer → Outcome
locks_as locks answer = record { effects = []; locks = Some locks; answer = answer }

abbrev pub is_some_of : {X : Type 0} → List X → Bool
is_some_of [] = false
is_some_of (x ∷ xs) = true

-- The paths with their versions in the state.
abbrev pub numbered : State → List Path → List Numbered
numbered s paths = map (λ p. record { path = p; number = version_of s.versions p }) paths

-- The version of each of the paths rises by one.
abbrev pub bump_each : List Path → List Effect
bump_each paths = map (λ p. Bump p 1) paths
