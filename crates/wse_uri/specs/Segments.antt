-- The segments that the path of a URL names.
use Rattle.std.specs.Prelude.{ℕ, ◌-◌, ◌==◌, List, [], ◌∷◌, map, length, take, Vec, if◌then◌else◌}
use Rattle.std.specs.List.{ends_with, slice_split}
use Rattle.std.specs.Str.{bytes_eq}
use Rattle.percent_encoding.specs.Percent.{percent_decode}
use Rattle.wse_path.specs.Path.{Path}

-- The bytes of each segment.
abbrev pub bytes_in : {A : Type 0} → List (Vec ℕ A) → Path
bytes_in segments = map (λ segment. segment.items) segments

-- The parts between the slashes: one more than there are slashes.
abbrev pub parts_of : List ℕ → Path
parts_of path = slice_split (λ b. b == 47) path

-- The list but for its last segment, if that is empty.
abbrev pub without_empty_last : Path → Path
without_empty_last ss = if ends_with bytes_eq ss ([] ∷ []) then take (length ss - 1) ss else ss

-- The path of a URL, cut at `/` but for one empty last segment, and each segment percent-decoded once. This project's
-- own rule.
abbrev pub segments_of : List ℕ → Path
segments_of path = map percent_decode (without_empty_last (parts_of path))
