-- Locks: finite maps from paths to the participants that hold them. This project's own rule.
use Rattle.std.specs.Prelude.{◌≡◌, ◌≢◌, ℕ, Bool, true, false, not, ◌&&◌, nat_eq, List, [], map, filter, Option, Some, None, ⊤}
use Rattle.std.specs.FinMap.{find, is_sorted}
use Rattle.wse_path.specs.Path.{Path}
use Rattle.wse_path.specs.Order.{path_cmp, is_named}
use Rattle.wse_locks.specs.declared.refused.LockRefused.{LockRefused}
use Rattle.wse_locks.specs.declared.refused.LockRefused.TheVariants.{Held, Memory}

-- The locks in path order.
abbrev pub Holders : Type 0
Holders = List (Path × ℕ)

-- The locks, and that their paths rise.
pub record LocksState : Type 0 where
  pub entries : Holders
  pub rises : is_sorted path_cmp entries ≡ true

-- Who holds the path.
abbrev pub holder : Holders → Path → Option ℕ
holder entries p = find path_cmp p entries

abbrev pub is_participant : ℕ → Option ℕ → Bool
is_participant by None = false
is_participant by (Some other) = nat_eq other by

-- The participant holds the path.
abbrev pub holds : Holders → ℕ → Path → Bool
holds entries by p = is_participant by (holder entries p)

abbrev pub is_another : ℕ → Option ℕ → Bool
is_another by None = false
is_another by (Some other) = not (nat_eq other by)

-- Another participant holds the path.
abbrev pub is_held : Holders → ℕ → Path → Bool
is_held entries by p = is_another by (holder entries p)

-- The named paths that another holds, each once, in path order.
abbrev pub held : Holders → ℕ → List Path → List Path
held entries by files = map (λ e. e.0) (filter (λ e. is_named files e.0 && not (nat_eq e.1 by)) entries)

-- The refusal names these paths, of which there are some.
abbrev pub TellsHeld : List Path → LockRefused → Type 0
TellsHeld paths (Held files) = (files ≡ paths) × (paths ≢ [])
TellsHeld paths Memory = ⊤
