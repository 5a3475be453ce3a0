-- The text after edits that aren't refused, said place by place over the text before: LSP 3.17, "TextEdit[]". All
-- ranges speak of the text before, and new texts at one place appear in the order of the list.
use Rattle.std.specs.Prelude.{ℕ, ◌==◌, ◌&&◌, Bool, false, List, Option, filter, filter_map, flat_map, nat_le, nat_lt, option_map}
use Rattle.std.specs.List.{list_any}
use Rattle.std.specs.Option.{option_map_or}
use Rattle.wse_path.specs.declared.position.Encoding.{Encoding}
use Rattle.wse_path.specs.declared.position.TextEdit.{TextEdit}
use Rattle.wse_splice.specs.declared.splice.Splice.{Splice}
use Rattle.wse_splice.specs.Splice.{rebuilt}
use Rattle.wse_edits.specs.declared.range.TextRange.{TextRange}
use Rattle.wse_edits.specs.Range.{live_range}

-- The edit starts at place k.
abbrev pub starts_at : List ℕ → Encoding → ℕ → TextEdit → Bool
starts_at text enc k edit = option_map_or (λ r. r.start == k) (live_range text enc edit) false

-- The edit replaces byte k.
abbrev pub replaces : List ℕ → Encoding → ℕ → TextEdit → Bool
replaces text enc k edit = option_map_or (λ r. nat_le r.start k && nat_lt k r.end) (live_range text enc edit) false

-- The new texts of the edits that start at place k, in order.
abbrev pub put_in : List ℕ → Encoding → List TextEdit → ℕ → List ℕ
put_in text enc edits k = flat_map (λ e. e.new_text) (filter (starts_at text enc k) edits)

-- Some edit replaces byte k.
abbrev pub is_replaced : List ℕ → Encoding → List TextEdit → ℕ → Bool
is_replaced text enc edits k = list_any (replaces text enc k) edits

-- The text after the edits.
abbrev pub edited : List ℕ → Encoding → List TextEdit → List ℕ
edited text enc edits = rebuilt text (put_in text enc edits) (is_replaced text enc edits)

-- The edit's new text in place of its range.
abbrev pub splice_in : TextEdit → Option TextRange → Option Splice
splice_in edit range = option_map (λ r. record { start = r.start; end = r.end; text = edit.new_text }) range

-- The splices that the edits are, in the order of the list. A skipped edit is none.
abbrev pub splices_of : List ℕ → Encoding → List TextEdit → List Splice
splices_of text enc edits = filter_map (λ e. splice_in e (live_range text enc e)) edits
