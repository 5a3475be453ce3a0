-- Where bytes begin in a vector, and how far they were searched for the end of a line.
use Rattle.std.specs.Prelude.{ℕ, ◌+◌, ◌≤◌, List, length, drop}
use Rattle.std.specs.List.{position_or_len}
use Rattle.wse_io.specs.Lines.{is_line_end}

-- They begin at `start`, and no line ends between that and `searched`.
pub record IsSearched (bytes : List ℕ) (start searched : ℕ) : Type 0 where
  pub order : start ≤ searched
  pub within : searched ≤ length bytes
  pub none : searched ≤ start + position_or_len is_line_end (drop start bytes)
