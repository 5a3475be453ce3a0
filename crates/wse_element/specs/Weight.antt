-- What records count for. This project's own rule.
use Rattle.std.specs.Prelude.{ℕ, ◌+◌, List, length, sum_by}
use Rattle.wse_path.specs.Path.{text_of}
use Rattle.wse_element.specs.Content.{content_len, old_content, new_content}
use Rattle.wse_element.specs.Record.{RecordPart, Record}

-- A part counts for 256, the bytes of the label and of the path's text, and those of the old and of the new content.
abbrev pub part_weight : List ℕ → RecordPart → ℕ
part_weight label part =
    256 + length label + length (text_of part.path) + content_len (old_content part.body) + content_len (new_content part.body)

-- A record counts for its parts together.
abbrev pub record_weight : Record → ℕ
record_weight r = sum_by (part_weight r.label) r.parts

abbrev pub weight : List Record → ℕ
weight records = sum_by record_weight records
