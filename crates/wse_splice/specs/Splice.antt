-- The text after splices, said place by place over the text before. LSP 3.17, "TextEdit[]": all ranges speak of the
-- text before, and inserts at one place appear in the order of the list.
use Rattle.std.specs.Prelude.{ℕ, ◌+◌, ◌≤◌, ◌==◌, ◌&&◌, Bool, List, [], ◌++◌, length, filter, nat_le, nat_lt, if◌then◌else◌, slice_get, All}
use Rattle.std.specs.List.{AllAdjacentBelow, flat_map, list_any, range_with_len}
use Rattle.std.specs.Option.{option_to_list}
use Rattle.std.specs.Str.{IsCharBoundary}
use Rattle.wse_splice.specs.declared.splice.Splice.{Splice}

-- Each range lies in a text of n bytes, and none ends behind the start of the next.
pub record Fits (splices : List Splice) (n : ℕ) : Type 0 where
  pub within : All (λ s. (s.start ≤ s.end) × (s.end ≤ n)) splices
  pub ordered : AllAdjacentBelow (λ s t. s.end ≤ t.start) splices (length splices)

-- Each range begins and ends between two characters of the text.
abbrev pub LieBetweenCharacters : List ℕ → List Splice → Type 0
LieBetweenCharacters old splices = All (λ s. IsCharBoundary old s.start × IsCharBoundary old s.end) splices

-- At each place of the old text, the end among them, what is put in there, and behind it the old byte unless it goes.
abbrev pub rebuilt : List ℕ → (ℕ → List ℕ) → (ℕ → Bool) → List ℕ
rebuilt old put_in goes =
    flat_map (λ k. put_in k ++ (if goes k then [] else option_to_list (slice_get old k))) (range_with_len 0 (length old + 1))

-- The texts of the splices that start at place k, in order.
abbrev pub put_in_at : List Splice → ℕ → List ℕ
put_in_at splices k = flat_map (λ s. s.text) (filter (λ s. s.start == k) splices)

-- Some splice replaces byte k.
abbrev pub is_replaced : List Splice → ℕ → Bool
is_replaced splices k = list_any (λ s. nat_le s.start k && nat_lt k s.end) splices

-- The text after the splices.
abbrev pub spliced : List ℕ → List Splice → List ℕ
spliced old splices = rebuilt old (put_in_at splices) (is_replaced splices)
