-- What the history keeps. All this is this project's own.
use Rattle.std.specs.Prelude.{ℕ, List}
use Rattle.wse_path.specs.Path.{Path}
use Rattle.wse_path.specs.Tree.{Entries}
use Rattle.wse_path.specs.Versions.{Numbers}
use Rattle.wse_element.specs.Record.{Record}

-- The records in order of making, the next free id, and how many commands were recorded.
pub record StacksState : Type 0 where
  pub records : List Record
  pub next_id : ℕ
  pub serial : ℕ

-- That and the versions: what a journal keeps.
pub record Kept : Type 0 where
  pub versions : Numbers
  pub records : List Record
  pub next_id : ℕ
  pub serial : ℕ

-- The whole state: the tree, the versions, the records, the numbers, and who holds which path.
pub record State : Type 0 where
  pub files : Entries
  pub versions : Numbers
  pub records : List Record
  pub next_id : ℕ
  pub serial : ℕ
  pub locks : List (Path × ℕ)

abbrev pub stacks_of : Kept → StacksState
stacks_of kept = record { records = kept.records; next_id = kept.next_id; serial = kept.serial }

abbrev pub kept_of : State → Kept
kept_of s = record { versions = s.versions; records = s.records; next_id = s.next_id; serial = s.serial }
