-- The past and the future of a path, read from the one list of records in order of making. This project's own rule.
use Rattle.std.specs.Prelude.{ℕ, Bool, not, ◌&&◌, ◌==◌, List, map, Option, None, filter, find, slice_get}
use Rattle.std.specs.List.{last_or}
use Rattle.wse_path.specs.Path.{Path}
use Rattle.wse_element.specs.Record.{Record}
use Rattle.wse_element.specs.Live.{is_live_at}

-- The records that are live at the path, in the order of the list.
abbrev pub live_at : List Record → Path → List Record
live_at records p = filter (is_live_at p) records

-- Of those the ones that are done. The last of them is the closest.
abbrev pub past : List Record → Path → List Record
past records p = filter (λ r. r.done && is_live_at p r) records

abbrev pub closest_past : List Record → Path → Option Record
closest_past records p = last_or None (past records p)

-- And the ones that aren't done. The first of them is the closest.
abbrev pub future : List Record → Path → List Record
future records p = filter (λ r. not r.done && is_live_at p r) records

abbrev pub closest_future : List Record → Path → Option Record
closest_future records p = slice_get (future records p) 0

abbrev pub ids : List Record → List ℕ
ids records = map (λ r. r.id) records

abbrev pub has_id : ℕ → Record → Bool
has_id id r = r.id == id

-- The record with the id.
abbrev pub record_of : List Record → ℕ → Option Record
record_of records id = find (has_id id) records
