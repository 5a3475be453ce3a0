-- Where a record is live, and what it says there. This project's own rule.
use Rattle.std.specs.Prelude.{Bool, true, false, ◌&&◌, List, Option, Some, None, is_some, filter, find, option_and_then, if◌then◌else◌}
use Rattle.std.specs.List.{list_any}
use Rattle.std.specs.Option.{option_map_or}
use Rattle.std.specs.Ordering.{eq_by_cmp}
use Rattle.wse_path.specs.Path.{Path}
use Rattle.wse_path.specs.Order.{path_cmp}
use Rattle.wse_element.specs.declared.state.PartState.{PartState}
use Rattle.wse_element.specs.declared.state.PartState.TheVariants.{Live, Closed, Incompatible}
use Rattle.wse_element.specs.Content.{Content, old_content, new_content}
use Rattle.wse_element.specs.Record.{RecordPart, Record}

abbrev pub is_live : PartState → Bool
is_live Live = true
is_live Closed = false
is_live Incompatible = false

-- The part is live, and at the path.
abbrev pub is_live_part_at : Path → RecordPart → Bool
is_live_part_at p part = eq_by_cmp path_cmp p part.path && is_live part.state

-- The record's live part at the path.
abbrev pub live_part : Path → Record → Option RecordPart
live_part p r = find (is_live_part_at p) r.parts

-- The part, where it is live.
abbrev pub where_live : RecordPart → Option RecordPart
where_live part = if is_live part.state then Some part else None

-- The record is live at the path.
abbrev pub is_live_at : Path → Record → Bool
is_live_at p r = is_some (live_part p r)

-- The record is live and valid at the path.
abbrev pub is_valid_at : Path → Record → Bool
is_valid_at p r = option_map_or (λ part. part.valid) (live_part p r) false

-- The content of the path before the record's command, and after it, where the record is live there.
abbrev pub old_at : Path → Record → Content
old_at p r = option_and_then (λ part. old_content part.body) (live_part p r)

abbrev pub new_at : Path → Record → Content
new_at p r = option_and_then (λ part. new_content part.body) (live_part p r)

abbrev pub live_parts : Record → List RecordPart
live_parts r = filter (λ part. is_live part.state) r.parts

-- The record is live at some path.
abbrev pub has_live : Record → Bool
has_live r = list_any (λ part. is_live part.state) r.parts
