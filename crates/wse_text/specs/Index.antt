-- An index of a text's lines, with marks by which a character is found without going along its whole line.
use Rattle.std.specs.Prelude.{◌≡◌, ℕ, ◌-◌, ◌≤◌, List, All}
use Rattle.std.specs.Str.{IsCharBoundary}
use Rattle.wse_path.specs.declared.position.Encoding.{Encoding}
use Rattle.wse_text.specs.declared.index.Mark.{Mark}
use Rattle.wse_text.specs.Place.{line_at, line_starts, place_on_line}

-- What an index of a text has.
pub record Indexed : Type 0 where
  pub starts : List ℕ
  pub marks : List Mark

-- The mark's place stands between two characters of the line that begins at its start, with its units in front of it:
-- counted from there, without these units, each later character of the line has the place that it has on the line.
pub record IsMark (text : List ℕ) (enc : Encoding) (mark : Mark) : Type 0 where
  pub boundary : IsCharBoundary text mark.place
  pub same : (character : ℕ) → mark.units ≤ character → place_on_line enc mark.place (line_at text mark.place) (character - mark.units) ≡ place_on_line enc mark.start (line_at text mark.start) character

-- The index is that of the text's lines, for positions in that encoding.
pub record IsIndexOf (text : List ℕ) (enc : Encoding) (index : Indexed) : Type 0 where
  pub starts : index.starts ≡ line_starts text
  pub marks : All (IsMark text enc) index.marks
