-- How long a line may be. This project's own rule.
use Rattle.std.specs.Prelude.{ℕ}

-- The most bytes of a line that is read; one of more is too long.
abbrev pub longest_line : ℕ
longest_line = 33554432
