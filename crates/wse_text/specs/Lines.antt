-- The lines of a text: LSP 3.17, "EOL". It is cut at `\n`, `\r\n` and `\r`, a line end belonging to no line.
use Rattle.std.specs.Prelude.{◌≡◌, ◌≢◌, ℕ, ◌+◌, ◌⊎◌, List, [], ◌∷◌, ◌++◌, length, map, All, slice_index}
use Rattle.std.specs.Str.{chars}
use Rattle.wse_text.specs.Place.{line_at}

-- A line, and the line end behind it.
pub record EndedLine : Type 0 where
  pub line : List ℕ
  pub end : List ℕ

abbrev pub line_and_end : EndedLine → List ℕ
line_and_end l = l.line ++ l.end

-- `\n`, `\r\n` or `\r`.
abbrev pub IsLineEnd : List ℕ → Type 0
IsLineEnd end = (end ≡ 10 ∷ []) ⊎ ((end ≡ 13 ∷ 10 ∷ []) ⊎ (end ≡ 13 ∷ []))

-- No byte of the line is `\n` or `\r`.
abbrev pub HoldsNoLineEnd : List ℕ → Type 0
HoldsNoLineEnd line = All (λ b. (b ≢ 10) × (b ≢ 13)) line

-- The text is these lines, each with its line end, one behind the other, and behind them the last line, which has no
-- line end. No `\r\n` is cut in two: where a line ends in `\r` alone, no `\n` follows.
abbrev pub IsCut : List ℕ → List EndedLine → List ℕ → Type 0
IsCut text [] last = (text ≡ last) × HoldsNoLineEnd last
IsCut text (first ∷ others) last =
    (rest : List ℕ) × (text ≡ line_and_end first ++ rest) × HoldsNoLineEnd first.line × IsLineEnd first.end × (first.end ≡ 13 ∷ [] → slice_index rest 0 ≢ 10) × IsCut rest others last

-- The places at which the lines begin, the first of them at `place`.
abbrev pub starts_from : ℕ → List EndedLine → List ℕ
starts_from place [] = place ∷ []
starts_from place (first ∷ others) = place ∷ starts_from (place + length (line_and_end first)) others

-- The lines without their line ends.
abbrev pub lines_of : List EndedLine → List ℕ → List (List ℕ)
lines_of ended last = map (λ l. l.line) ended ++ last ∷ []

-- These are the places at which the lines begin into which the text is cut, and `line_at` there gives the code points
-- of these lines.
pub record AreLineStarts (text places : List ℕ) : Type 0 where
  pub ended : List EndedLine
  pub last : List ℕ
  pub cut : IsCut text ended last
  pub begin : places ≡ starts_from 0 ended
  pub points : map (line_at text) places ≡ map chars (lines_of ended last)
