-- Where a position lies in a text: LSP 3.17, "Position", "PositionEncodingKind" and "EOL". That a line past the last is
-- the text's end, that a character inside a code point has no place, and numbers up to 2^64-1 are this project's own
-- readings.
use Rattle.std.specs.Prelude.{ℕ, ◌+◌, ◌-◌, ◌==◌, ◌&&◌, ◌||◌, Bool, List, Option, Some, None, Result, Ok, Err, not, length, take, drop, filter, count_by, sum_by, nat_le, nat_lt, if◌then◌else◌, slice_get, slice_index, take_while}
use Rattle.std.specs.Char.{len_utf8}
use Rattle.std.specs.List.{range_with_len}
use Rattle.std.specs.Str.{chars}
use Rattle.wse_path.specs.declared.position.Encoding.{Encoding}
use Rattle.wse_path.specs.declared.position.Encoding.TheVariants.{Utf8, Utf16, Utf32}
use Rattle.wse_path.specs.declared.position.Position.{Position}
use Rattle.wse_text.specs.declared.place.Inside.{Inside}

-- `\n` or `\r`. Line ends are `\n`, `\r\n`, and a `\r` that no `\n` follows.
abbrev pub ends_line : ℕ → Bool
ends_line c = c == 10 || c == 13

-- A line begins at this place of the text: at its start, or right behind a line end.
abbrev pub begins_line : List ℕ → ℕ → Bool
begins_line text place =
    place == 0 || slice_index text (place - 1) == 10 || (slice_index text (place - 1) == 13 && not (slice_index text place == 10))

-- The places at which the text's lines begin, in order.
abbrev pub line_starts : List ℕ → List ℕ
line_starts text = filter (begins_line text) (range_with_len 0 (length text + 1))

-- The code points of the line that begins there: those up to its line end, or to the text's end.
abbrev pub line_at : List ℕ → ℕ → List ℕ
line_at text start = take_while (λ c. not (ends_line c)) (chars (drop start text))

-- How many units a code point has: bytes, UTF-16 code units, or itself alone.
abbrev pub units_of : Encoding → ℕ → ℕ
units_of Utf8 c = len_utf8 c
units_of Utf16 c = if nat_lt c 0x1_0000 then 1 else 2
units_of Utf32 c = 1

abbrev pub all_units : Encoding → List ℕ → ℕ
all_units enc points = sum_by (units_of enc) points

-- How many of the code points end within the first `character` units.
abbrev pub points_within : Encoding → List ℕ → ℕ → ℕ
points_within enc points character = count_by (λ k. nat_le (all_units enc (take k points)) character) (range_with_len 1 (length points))

-- The place of a character on the line of these code points that begins at `start`. Bytes are the units of UTF-8.
abbrev pub place_on_line : Encoding → ℕ → List ℕ → ℕ → Result ℕ Inside
place_on_line enc start points character =
    let within = take (points_within enc points character) points in
    let place = start + all_units Utf8 within in
    if nat_le (all_units enc points) character then Ok (start + all_units Utf8 points)
    else (if all_units enc within == character then Ok place
    else Err (record { char_start = place }))

-- The place of a character on the line that begins there, or the text's end where no line does.
abbrev pub place_from : List ℕ → Encoding → Option ℕ → ℕ → Result ℕ Inside
place_from text enc (Some start) character = place_on_line enc start (line_at text start) character
place_from text enc None character = Ok (length text)

-- The place of the position, or the start of the code point in which its units end.
abbrev pub offset_of : List ℕ → Encoding → Position → Result ℕ Inside
offset_of text enc pos = place_from text enc (slice_get (line_starts text) pos.line) pos.character
