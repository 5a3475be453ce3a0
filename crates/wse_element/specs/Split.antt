-- Splits: a record of several paths becomes one record for each path at which it is live. This project's own rule.
use Rattle.std.specs.Prelude.{ℕ, List, [], ◌∷◌, map, flat_map, if◌then◌else◌}
use Rattle.std.specs.List.{enumerate_from}
use Rattle.wse_element.specs.Record.{RecordPart, Record}
use Rattle.wse_element.specs.Live.{live_parts}
use Rattle.wse_element.specs.Stacks.{has_id}

-- The record with this id and this one part. All else is as in the whole.
abbrev pub piece : Record → ℕ → RecordPart → Record
piece r id part = record r { id = id; parts = part ∷ [] }

-- One record for each live part, in path order, numbered from `first` on.
abbrev pub pieces : Record → ℕ → List Record
pieces r first = map (λ numbered. piece r numbered.0 numbered.1) (enumerate_from first (live_parts r))

-- The list with the pieces of the record with that id in its place.
abbrev pub split_one : ℕ → ℕ → Record → List Record
split_one id first r = if has_id id r then pieces r first else r ∷ []

abbrev pub split : List Record → ℕ → ℕ → List Record
split records id first = flat_map (split_one id first) records
