-- What is seen of the history of a path, and how often that changed. This project's own rule.
use Rattle.std.specs.Prelude.{◌≡◌, ◌≢◌, ◌⊎◌, ℕ, ◌+◌, Bool, true, List, map}
use Rattle.std.specs.List.{AllByRecursion}
use Rattle.std.specs.FinMap.{put}
use Rattle.wse_path.specs.Path.{Path}
use Rattle.wse_path.specs.Order.{path_cmp, is_named}
use Rattle.wse_path.specs.Versions.{Numbers, version_of}
use Rattle.wse_element.specs.Record.{Record}
use Rattle.wse_element.specs.Live.{is_valid_at}
use Rattle.wse_element.specs.Stacks.{past, future}

-- The ids of the records, and which of them are valid at the path.
abbrev pub seen : Path → List Record → List (ℕ × Bool)
seen p records = map (λ r. (r.id, is_valid_at p r)) records

-- The past and the future of a path, each in the order of the list.
pub record Look : Type 0 where
  pub past : List (ℕ × Bool)
  pub future : List (ℕ × Bool)

abbrev pub look : List Record → Path → Look
look records p = record { past = seen p (past records p); future = seen p (future records p) }

-- How often the history of each path turned, before and after one list of effects: one more exactly where it looks otherwise.
pub record Turned (old new : List Record) (before after : Path → ℕ) : Type 0 where
  pub other : (p : Path) → look old p ≢ look new p → after p ≡ before p + 1
  pub same : (p : Path) → look old p ≡ look new p → after p ≡ before p

-- What the path is noted as: 1 where its history looks otherwise in the new list, and nothing where it looks the same.
abbrev pub IsNoted : List Record → List Record → Path → Numbers → Numbers → Type 0
IsNoted old new p before after =
    ((after ≡ before) × (look old p ≡ look new p)) ⊎ ((after ≡ put path_cmp p 1 before) × (look old p ≢ look new p))

-- Each of these paths is noted as what it is, and no other.
pub record AreNoted (old new : List Record) (paths : List Path) (noted : Numbers) : Type 0 where
  pub other : (p : Path) → is_named paths p ≡ true → look old p ≢ look new p → version_of noted p ≡ 1
  pub same : (p : Path) → look old p ≡ look new p → version_of noted p ≡ 0
  pub ones : AllByRecursion (λ e. e.1 ≡ 1) noted
