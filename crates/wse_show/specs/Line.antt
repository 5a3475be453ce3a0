-- JSON values, one a line.
use Rattle.std.specs.Prelude.{ℕ, List, [], ◌∷◌, ◌++◌}
use Rattle.serde_json.specs.Data.{Data}
use Rattle.serde_json.specs.Written.{compact_text}

-- Compact JSON and a line's end.
abbrev pub line_of : Data → List ℕ
line_of d = compact_text d ++ 10 ∷ []
