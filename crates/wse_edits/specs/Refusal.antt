-- Why edits of a text are refused: the first edit that lies inside a code point, and else the first pair that doesn't
-- fit. LSP 3.17, "TextEdit[]", lets no two ranges overlap, but lets several inserts, and after them one edit that
-- removes or replaces, have the same start. Just which pairs fit, and which refusal comes first, are this project's own
-- rules.
use Rattle.std.specs.Prelude.{ℕ, ◌||◌, ◌&&◌, Bool, false, not, List, [], ◌∷◌, Option, Some, None, length, map, flat_map, nat_le, nat_lt, option_and_then, option_map, slice_get, slice_index_or, if◌then◌else◌}
use Rattle.std.specs.List.{range_with_len}
use Rattle.std.specs.Option.{option_or}
use Rattle.std.specs.Result.{result_err}
use Rattle.wse_path.specs.declared.position.Encoding.{Encoding}
use Rattle.wse_path.specs.declared.position.TextEdit.{TextEdit}
use Rattle.wse_text.specs.declared.place.Inside as text
use Rattle.wse_edits.specs.declared.range.TextRange.{TextRange}
use Rattle.wse_edits.specs.declared.refused.EditsRefused.{EditsRefused}
use Rattle.wse_edits.specs.declared.refused.EditsRefused.TheVariants.{Inside, Overlap}
use Rattle.wse_edits.specs.Range.{range_of, ranges_of}

-- The first answer that f gives of the items.
abbrev pub find_map : {X Y : Type 0} → (X → Option Y) → List X → Option Y
find_map f [] = None
find_map f (x ∷ xs) = option_or (f x) (find_map f xs)

-- The code point inside which the edit lies. A skipped edit is passed over.
abbrev pub inside_error : List ℕ → Encoding → TextEdit → Option text.Inside
inside_error text enc edit = if edit.skipped then None else result_err (range_of text enc edit)

-- What is said against the edit with that number.
abbrev pub inside_at : List ℕ → Encoding → List TextEdit → ℕ → Option EditsRefused
inside_at text enc edits number = option_map (λ e. Inside number e.char_start) (option_and_then (inside_error text enc) (slice_get edits number))

-- The first edit that lies inside a code point.
abbrev pub inside_of : List ℕ → Encoding → List TextEdit → Option EditsRefused
inside_of text enc edits = find_map (inside_at text enc edits) (range_with_len 0 (length edits))

-- An earlier edit of the list fits a later one: it ends where the later one starts, or before; or the later one ends
-- where it starts, or before, and starts before it.
abbrev pub fits_pair : TextRange → TextRange → Bool
fits_pair earlier later =
    nat_le earlier.end later.start || (nat_le later.end earlier.start && nat_lt later.start earlier.start)

-- They are there, and don't fit.
abbrev pub overlaps : Option TextRange → Option TextRange → Bool
overlaps (Some earlier) (Some later) = not (fits_pair earlier later)
overlaps (Some earlier) None = false
overlaps None later = false

-- The pairs of an earlier and a later number below n, by the later one and then by the earlier.
abbrev pub pairs_below : ℕ → List (ℕ × ℕ)
pairs_below n = flat_map (λ second. map (λ first. (first, second)) (range_with_len 0 second)) (range_with_len 0 n)

-- What is said against the pair of edits with those numbers.
abbrev pub overlap_at : List (Option TextRange) → ℕ × ℕ → Option EditsRefused
overlap_at ranges pair =
    if overlaps (slice_index_or ranges pair.0 None) (slice_index_or ranges pair.1 None) then Some (Overlap pair.0 pair.1) else None

-- The first pair that doesn't fit.
abbrev pub overlap_of : List (Option TextRange) → Option EditsRefused
overlap_of ranges = find_map (overlap_at ranges) (pairs_below (length ranges))

-- Why the edits are refused.
abbrev pub refusal : List ℕ → Encoding → List TextEdit → Option EditsRefused
refusal text enc edits = option_or (inside_of text enc edits) (overlap_of (ranges_of text enc edits))
