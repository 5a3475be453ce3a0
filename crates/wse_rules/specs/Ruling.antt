-- What becomes of an undo or a redo. All of this is this project's own rule.
use Rattle.std.specs.Prelude.{ℕ, Bool, not, ◌&&◌, nat_le, nat_lt, List, [], ◌∷◌, length, map, filter, find, Option, Some, None, if◌then◌else◌}
use Rattle.std.specs.Option.{option_map_or}
use Rattle.wse_path.specs.Path.{Path}
use Rattle.wse_path.specs.declared.command.Choice.{Choice}
use Rattle.wse_path.specs.declared.command.Choice.TheVariants.{All, This, Cancel, Turned}
use Rattle.wse_path.specs.declared.command.Direction.{Direction}
use Rattle.wse_path.specs.declared.command.Direction.TheVariants.{Back, Forward}
use Rattle.wse_locks.specs.Locks.{Holders, is_held}
use Rattle.wse_element.specs.Record.{RecordPart, Record}
use Rattle.wse_element.specs.Live.{is_live, is_valid_at}
use Rattle.wse_element.specs.Stacks.{closest_past, closest_future}
use Rattle.wse_element.specs.Applicable.{is_closest}
use Rattle.wse_rules.specs.declared.ruling.Cause.{Cause}
use Rattle.wse_rules.specs.declared.ruling.Cause.TheVariants as causes
use Rattle.wse_rules.specs.declared.ruling.Ruling.{Ruling}
use Rattle.wse_rules.specs.declared.ruling.Ruling.TheVariants as rulings

-- The record that an undo or a redo at the path is about.
abbrev pub closest : Direction → List Record → Path → Option Record
closest Back records p = closest_past records p
closest Forward records p = closest_future records p

-- A record of one part: it is moved at the path, unless its part is invalid, or another participant holds the path.
abbrev pub one_ruling : Holders → (by : ℕ) → Path → Record → Ruling
one_ruling locks by p r =
    if not (is_valid_at p r) then rulings.Flush causes.Invalid (p ∷ []) (p ∷ [])
    else (if is_held locks by p then rulings.Locked (p ∷ []) else rulings.Go r.id)

abbrev pub all_paths : Record → List Path
all_paths r = map (λ part. part.path) r.parts

abbrev pub paths_where : (RecordPart → Bool) → Record → List Path
paths_where test r = map (λ part. part.path) (filter test r.parts)

-- The paths of the parts that aren't live.
abbrev pub removed : Record → List Path
removed r = paths_where (λ part. not (is_live part.state)) r

-- Of those that are live: the ones at whose path another record is the closest,
abbrev pub changed : Direction → List Record → Record → List Path
changed direction records r = paths_where (λ part. is_live part.state && not (is_closest r.id (closest direction records part.path))) r

-- the ones that another participant holds,
abbrev pub locked : Holders → (by : ℕ) → Record → List Path
locked locks by r = paths_where (λ part. is_live part.state && is_held locks by part.path) r

-- and the ones that are invalid.
abbrev pub invalid : Record → List Path
invalid r = paths_where (λ part. is_live part.state && not part.valid) r

-- Files at which a record can't be moved, and why.
pub record Blocking : Type 0 where
  pub cause : Cause
  pub files : List Path

-- In the order in which they decide.
abbrev pub blockings : Direction → List Record → Holders → (by : ℕ) → Record → List Blocking
blockings direction records locks by r =
    record { cause = causes.Removed; files = removed r }
    ∷ record { cause = causes.Changed; files = changed direction records r }
    ∷ record { cause = causes.Locked; files = locked locks by r }
    ∷ record { cause = causes.Invalid; files = invalid r }
    ∷ []

-- The first that names a file.
abbrev pub blocked : Direction → List Record → Holders → (by : ℕ) → Record → Option Blocking
blocked direction records locks by r = find (λ b. nat_lt 0 (length b.files)) (blockings direction records locks by r)

-- A record that is blocked is split where it can be, and else all its files lose their history.
abbrev pub blocked_ruling : Blocking → Record → Ruling
blocked_ruling b r = if r.splits then rulings.Split r.id b.cause b.files else rulings.Flush b.cause b.files (all_paths r)

-- What was chosen for a record that can be split.
abbrev pub chosen_ruling : Choice → Record → Ruling
chosen_ruling All r = rulings.Go r.id
chosen_ruling This r = rulings.Split r.id causes.Chosen []
chosen_ruling Cancel r = rulings.Cancelled r.id
chosen_ruling (Turned files) r = rulings.Split r.id causes.Meantime files

-- A record that isn't blocked: only one that can be split asks for a choice.
abbrev pub free_ruling : Choice → Record → Ruling
free_ruling choice r = if r.splits then chosen_ruling choice r else rulings.Go r.id

-- A redo asks nothing.
abbrev pub choice_for : Direction → Choice → Choice
choice_for Back choice = choice
choice_for Forward choice = All

-- A record of several parts: what blocks it decides, and then the choice.
abbrev pub across_ruling : Option Blocking → Choice → Record → Ruling
across_ruling (Some b) choice r = blocked_ruling b r
across_ruling None choice r = free_ruling choice r

abbrev pub ruling_of : Direction → List Record → Holders → (by : ℕ) → Path → Choice → Record → Ruling
ruling_of direction records locks by p choice r =
    if nat_le 2 (length r.parts) then across_ruling (blocked direction records locks by r) (choice_for direction choice) r
    else one_ruling locks by p r

-- The verdict on an undo or a redo at the path by the participant.
abbrev pub ruling : Direction → List Record → Holders → (by : ℕ) → Path → Choice → Ruling
ruling direction records locks by p choice =
    option_map_or (ruling_of direction records locks by p choice) (closest direction records p) rulings.Nothing
