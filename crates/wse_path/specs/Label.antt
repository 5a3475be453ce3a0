-- Labels of edits: texts of at most 1,024 bytes. This project's own limit.
use Rattle.std.specs.Prelude.{ℕ, ◌≤◌, List, length}

abbrev pub IsLabel : List ℕ → Type 0
IsLabel text = length text ≤ 1024
