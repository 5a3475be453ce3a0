-- How many edits from the front of a list fit one another.
use Rattle.std.specs.Prelude.{◌≡◌, ℕ, suc, ◌<◌, ◌≤◌, false, List, [], ◌∷◌, Option, None, option_map, slice_index_or}
use Rattle.std.specs.List.{AllPairs, cons_option}
use Rattle.wse_edits.specs.declared.fitting.NumberedRange.{NumberedRange}
use Rattle.wse_edits.specs.declared.range.TextRange.{TextRange}
use Rattle.wse_edits.specs.Refusal.{overlaps}

-- Of the first n edits of the list each fits the earlier ones.
abbrev pub FitBelow : List (Option TextRange) → ℕ → Type 0
FitBelow ranges n =
    (first second : ℕ) → first < second → second < n → overlaps (slice_index_or ranges first None) (slice_index_or ranges second None) ≡ false

abbrev pub with_number : ℕ → TextRange → NumberedRange
with_number number r = record { start = r.start; end = r.end; number = number }

-- The ranges that there are, with their numbers, which begin with `number`.
abbrev pub numbered_from : ℕ → List (Option TextRange) → List NumberedRange
numbered_from number [] = []
numbered_from number (range ∷ ranges) = cons_option (option_map (with_number number) range) (numbered_from (suc number) ranges)

-- Of those with a number below n each ends before each later one starts.
abbrev pub FollowBelow : ℕ → List NumberedRange → Type 0
FollowBelow n ranges = AllPairs (λ r s. r.number < n → s.number < n → r.end ≤ s.start) ranges
