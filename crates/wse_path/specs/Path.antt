-- Paths below the root: lists of segments, each the list of its bytes.
use Rattle.std.specs.Prelude.{◌≡◌, ℕ, Bool, ◌||◌, ◌==◌, nat_lt, take, ◌&&◌, List, map, length, position, Option, Some, None, ◌++◌, codes, decimal, String, string_bytes, if◌then◌else◌}
use Rattle.std.specs.List.{list_any, join_with_byte, slice_split}
use Rattle.std.specs.Str.{bytes_eq}
use Rattle.std.specs.Cmp.Lexicographic.{pointwise}
use Rattle.wse_path.specs.declared.path.PathRefused.{PathRefused}
use Rattle.wse_path.specs.declared.path.PathRefused.TheVariants.{Empty, TooDeep, Segment, TooLong}

abbrev pub Path : Type 0
Path = List (List ℕ)

-- The bytes of each segment.
abbrev pub bytes_of : {A : Type 0} → List (String A) → Path
bytes_of segments = map (λ s. string_bytes s) segments

-- `/` or NUL is among the bytes.
abbrev pub has_bad_byte : List ℕ → Bool
has_bad_byte s = list_any (λ b. b == 47 || b == 0) s

-- No path has this segment: it is empty, longer than 255 bytes, `.`, `..`, or has `/` or NUL.
abbrev pub is_bad : List ℕ → Bool
is_bad s = length s == 0 || nat_lt 255 (length s) || bytes_eq s (codes ".") || bytes_eq s (codes "..") || has_bad_byte s

-- The segments joined by `/`.
abbrev pub text_of : Path → List ℕ
text_of ss = join_with_byte 47 ss

-- The pieces between the slashes of a text: one more than there are slashes.
abbrev pub pieces_of : List ℕ → Path
pieces_of text = slice_split (λ b. b == 47) text

abbrev pub refusal_within : Path → Option ℕ → Option PathRefused
refusal_within ss (Some index) = Some (Segment index)
refusal_within ss None = if nat_lt 4096 (length (text_of ss)) then Some (TooLong (length (text_of ss))) else None

-- Why the segments are no path: the first cause, in this order.
abbrev pub refusal : Path → Option PathRefused
refusal ss =
    if length ss == 0 then Some Empty
    else (if nat_lt 64 (length ss) then Some (TooDeep (length ss))
    else refusal_within ss (position is_bad ss))

-- Nothing refuses the segments.
abbrev pub IsPath : Path → Type 0
IsPath ss = refusal ss ≡ None

-- The second path is a strict prefix of the first.
abbrev pub is_under : Path → Path → Bool
is_under p q = nat_lt (length q) (length p) && pointwise bytes_eq q (take (length q) p)

-- Why the segments are no path, in words.
abbrev pub words_of : PathRefused → List ℕ
words_of Empty = codes "no segment"
words_of (TooDeep depth) = decimal depth ++ codes " segments"
words_of (Segment index) = codes "segment " ++ (decimal index ++ codes " is not a name")
words_of (TooLong bytes) = decimal bytes ++ codes " bytes"
