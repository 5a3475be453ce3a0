-- The ranges of edits: LSP 3.17, "TextEdit". That an edit whose start is behind its end is read with the two exchanged,
-- and that one inside a code point has no range, are this project's own readings.
use Rattle.std.specs.Prelude.{ℕ, ◌≤◌, List, Option, None, Result, Ok, Err, map, min, max, if◌then◌else◌}
use Rattle.std.specs.Result.{result_ok}
use Rattle.std.specs.Str.{IsCharBoundary}
use Rattle.wse_path.specs.declared.position.Encoding.{Encoding}
use Rattle.wse_path.specs.declared.position.TextEdit.{TextEdit}
use Rattle.wse_text.specs.declared.place.Inside.{Inside}
use Rattle.wse_text.specs.Place.{offset_of}
use Rattle.wse_edits.specs.declared.range.TextRange.{TextRange}

-- The range doesn't end in front of its start.
abbrev pub Rises : TextRange → Type 0
Rises r = r.start ≤ r.end

-- It begins and ends between two characters of the text.
abbrev pub IsRangeOf : List ℕ → TextRange → Type 0
IsRangeOf text r = Rises r × IsCharBoundary text r.start × IsCharBoundary text r.end

-- From the smaller place up to the greater, or the first that lies inside a code point.
abbrev pub range_between : Result ℕ Inside → Result ℕ Inside → Result TextRange Inside
range_between (Ok a) (Ok b) = Ok (record { start = min a b; end = max a b })
range_between (Ok a) (Err e) = Err e
range_between (Err e) b = Err e

abbrev pub range_of : List ℕ → Encoding → TextEdit → Result TextRange Inside
range_of text enc edit = range_between (offset_of text enc edit.start) (offset_of text enc edit.end)

-- The range of an edit that isn't skipped.
abbrev pub live_range : List ℕ → Encoding → TextEdit → Option TextRange
live_range text enc edit = if edit.skipped then None else result_ok (range_of text enc edit)

-- The ranges of the edits, numbered as the list is.
abbrev pub ranges_of : List ℕ → Encoding → List TextEdit → List (Option TextRange)
ranges_of text enc edits = map (live_range text enc) edits
