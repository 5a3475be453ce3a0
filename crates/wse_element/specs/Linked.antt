-- When records fit one another, and the tree them. This project's own rule.
use Rattle.std.specs.Prelude.{◌≡◌, ℕ, Bool, true, not, ◌&&◌, ◌==◌, nat_lt, List, [], ◌∷◌, if◌then◌else◌}
use Rattle.std.specs.List.{list_any, list_all}
use Rattle.std.specs.FinMap.{is_sorted}
use Rattle.std.specs.Option.{option_map_or}
use Rattle.wse_path.specs.Path.{Path}
use Rattle.wse_path.specs.Order.{path_cmp}
use Rattle.wse_path.specs.Tree.{Entries, content, IsTree}
use Rattle.wse_path.specs.Changes.{is_same}
use Rattle.wse_element.specs.Content.{Content}
use Rattle.wse_element.specs.Record.{Record}
use Rattle.wse_element.specs.Live.{is_valid_at, old_at, new_at, has_live}
use Rattle.wse_element.specs.Stacks.{live_at, closest_past, closest_future, ids}
use Rattle.wse_element.specs.Apart.{is_apart}
use Rattle.wse_element.specs.Numbers.{is_bounded, are_versions_bounded, is_known_bounded, are_some}
use Rattle.wse_element.specs.State.{Kept, State, stacks_of, kept_of}

-- No number stands in the list twice.
abbrev pub are_different : List ℕ → Bool
are_different [] = true
are_different (n ∷ ns) = not (list_any (λ m. m == n) ns) && are_different ns

-- The id and the origin were given out: they are neither 0 nor free.
abbrev pub is_numbered : ℕ → Record → Bool
is_numbered next_id r = nat_lt 0 r.id && nat_lt r.id next_id && nat_lt 0 r.origin && nat_lt r.origin next_id

-- Those that pass the test come before the others.
abbrev pub come_first : {X : Type 0} → (X → Bool) → List X → Bool
come_first test [] = true
come_first test (x ∷ xs) = if test x then come_first test xs else not (list_any test xs)

-- Where both are valid at the path, what the first left there is what the second found.
abbrev pub meet_at : Path → Record → Record → Bool
meet_at p r next = if is_valid_at p r && is_valid_at p next then is_same (new_at p r) (old_at p next) else true

abbrev pub meets_first : Path → Record → List Record → Bool
meets_first p r [] = true
meets_first p r (next ∷ more) = meet_at p r next

-- Each of the records meets its next neighbour.
abbrev pub neighbours_meet : Path → List Record → Bool
neighbours_meet p [] = true
neighbours_meet p (r ∷ more) = meets_first p r more && neighbours_meet p more

-- The records fit one another at the path, in the order of the list: the done ones come before the others, the invalid ones
-- before the valid ones, and valid neighbours meet.
pub record IsLinkedAt (records : List Record) (p : Path) : Type 0 where
  pub done_first : come_first (λ r. r.done) (live_at records p) ≡ true
  pub invalid_first : come_first (λ r. not (is_valid_at p r)) (live_at records p) ≡ true
  pub meet : neighbours_meet p (live_at records p) ≡ true

-- The records fit one another, where this is the next free id.
pub record IsLinked (next_id : ℕ) (records : List Record) : Type 0 where
  pub different : are_different (ids records) ≡ true
  pub numbered : list_all (is_numbered next_id) records ≡ true
  pub live : list_all has_live records ≡ true
  pub apart : list_all is_apart records ≡ true
  pub each : (p : Path) → IsLinkedAt records p

-- The content is what a record left at the path, or found there, if it is valid there.
abbrev pub is_left_by : Path → Content → Record → Bool
is_left_by p content r = if is_valid_at p r then is_same content (new_at p r) else true

abbrev pub is_found_by : Path → Content → Record → Bool
is_found_by p content r = if is_valid_at p r then is_same content (old_at p r) else true

-- The tree holds at the path what the closest past left there, and what the closest future found there.
pub record IsTreeLinkedAt (files : Entries) (records : List Record) (p : Path) : Type 0 where
  pub past : option_map_or (is_left_by p (content files p)) (closest_past records p) true ≡ true
  pub future : option_map_or (is_found_by p (content files p)) (closest_future records p) true ≡ true

-- What a journal keeps is linked, its versions stand in path order and none is 0, and its numbers are within their bounds.
pub record IsKeptLinked (kept : Kept) : Type 0 where
  pub records : IsLinked kept.next_id kept.records
  pub rise : is_sorted path_cmp kept.versions ≡ true
  pub some : are_some kept.versions ≡ true
  pub bounded : is_bounded (stacks_of kept) ≡ true
  pub versions : are_versions_bounded kept.serial kept.versions ≡ true
  pub known : is_known_bounded kept.versions ≡ true

-- The state is linked: what a journal keeps of it, and the tree to the records.
pub record IsStateLinked (s : State) : Type 0 where
  pub kept : IsKeptLinked (kept_of s)
  pub tree : IsTree s.files
  pub each : (p : Path) → IsTreeLinkedAt s.files s.records p
