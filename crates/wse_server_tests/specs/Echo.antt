-- A machine for tests. It answers each line with the line before it, the line and `\n`, and its state is the line before. A line
-- that is too long is answered with `long` and `\n`, and changes nothing.
use Rattle.std.specs.Prelude.{⊤, Bool, List, ℕ, ◌++◌, ◌∷◌, [], codes, length, nat_lt, if◌then◌else◌}
use Rattle.wse_stream.specs.Longest.{longest_line}
use Rattle.wse_stream.specs.Machine.{Machine}

abbrev pub is_long : List ℕ → Bool
is_long line = nat_lt longest_line (length line)

abbrev pub echo : Machine (List ℕ)
echo = record {
  answer = λ n last line. if is_long line then codes "long\n" else last ++ line ++ 10 ∷ [];
  after = λ last line. if is_long line then last else line;
  stands = λ last image. ⊤;
}
