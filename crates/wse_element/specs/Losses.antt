-- How parts stop being live, or valid: drops, flushes and invalidation. This project's own rule.
use Rattle.std.specs.Prelude.{false, List, map, filter, if◌then◌else◌}
use Rattle.wse_path.specs.Path.{Path}
use Rattle.wse_element.specs.declared.state.PartState.{PartState}
use Rattle.wse_element.specs.declared.state.PartState.TheVariants.{Closed, Incompatible}
use Rattle.wse_element.specs.Content.{no_contents}
use Rattle.wse_element.specs.Record.{RecordPart, Record}
use Rattle.wse_element.specs.Live.{is_live_part_at, has_live}

-- The part in a state in which it isn't live. It loses its contents.
abbrev pub lost : PartState → RecordPart → RecordPart
lost state part = record { path = part.path; state = state; valid = part.valid; body = no_contents }

-- The record, whose live part at the path is lost.
abbrev pub part_lost_at : Path → PartState → RecordPart → RecordPart
part_lost_at p state part = if is_live_part_at p part then lost state part else part

abbrev pub lost_at : Path → PartState → Record → Record
lost_at p state r = record r { parts = map (part_lost_at p state) r.parts }

-- A record that isn't live anywhere leaves the list.
abbrev pub without_dead : List Record → List Record
without_dead records = filter has_live records

-- A flush closes each live part at the path, in its past and in its future.
abbrev pub flushed : List Record → Path → List Record
flushed records p = without_dead (map (lost_at p Closed) records)

-- A drop makes the parts of the path's future incompatible.
abbrev pub future_lost_at : Path → Record → Record
future_lost_at p r = if r.done then r else lost_at p Incompatible r

abbrev pub dropped : List Record → Path → List Record
dropped records p = without_dead (map (future_lost_at p) records)

-- Each live part at the path is invalid, for good.
abbrev pub part_invalid_at : Path → RecordPart → RecordPart
part_invalid_at p part = if is_live_part_at p part then record part { valid = false } else part

abbrev pub invalid_at : Path → Record → Record
invalid_at p r = record r { parts = map (part_invalid_at p) r.parts }

abbrev pub invalidated : List Record → Path → List Record
invalidated records p = map (invalid_at p) records
