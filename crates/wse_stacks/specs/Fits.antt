-- Whether a record fits behind a linked list. This project's own rule.
use Rattle.std.specs.Prelude.{◌≡◌, ◌<◌, ⊤, length, take, slice_get, ℕ, Bool, true, false, not, ◌&&◌, ◌||◌, List, Option, Some, None}
use Rattle.std.specs.List.{list_any, list_all, last_or}
use Rattle.std.specs.Option.{option_map_or}
use Rattle.wse_path.specs.Path.{Path}
use Rattle.wse_element.specs.Record.{Record}
use Rattle.wse_element.specs.Live.{is_live_at, is_valid_at, has_live}
use Rattle.wse_element.specs.Stacks.{live_at, has_id}
use Rattle.wse_element.specs.Apart.{is_apart}
use Rattle.wse_element.specs.Linked.{is_numbered, meet_at, IsLinked}

-- The last record that is live at the path.
abbrev pub last_live : List Record → Path → Option Record
last_live records p = last_or None (live_at records p)

-- The record may stand behind that one at the path.
abbrev pub fits_after : Path → Record → Option Record → Bool
fits_after p r None = true
fits_after p r (Some last) = (last.done || not r.done) && (not (is_valid_at p last) || is_valid_at p r) && meet_at p last r

abbrev pub fits_at : List Record → Record → Path → Bool
fits_at records r p = not (is_live_at p r) || fits_after p r (last_live records p)

-- The record fits behind these, where this is the next free id.
abbrev pub fits : ℕ → List Record → Record → Bool
fits next_id records r =
    not (list_any (has_id r.id) records) && is_numbered next_id r && has_live r && is_apart r
    && list_all (λ part. fits_at records r part.path) r.parts

-- The record at the place, if one is told, is the first that doesn't fit behind those before it.
abbrev pub IsFirstUnfit : ℕ → List Record → Option ℕ → Type 0
IsFirstUnfit next_id records None = ⊤
IsFirstUnfit next_id records (Some at) =
    (at < length records) × (IsLinked next_id (take at records) × (option_map_or (fits next_id (take at records)) (slice_get records at) true ≡ false))
