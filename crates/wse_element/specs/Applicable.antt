-- When an effect may come. This project's own rule.
use Rattle.std.specs.Prelude.{◌≡◌, ℕ, ◌+◌, ◌-◌, ◌^◌, Bool, true, false, not, ◌&&◌, ◌==◌, nat_le, List, length, take, find, Option, None, is_some, slice_get}
use Rattle.std.specs.List.{list_any, list_all, range_with_len}
use Rattle.std.specs.Option.{option_map_or}
use Rattle.wse_path.specs.Path.{Path}
use Rattle.wse_path.specs.Versions.{Numbers, version_of}
use Rattle.wse_element.specs.declared.state.PartState.{PartState}
use Rattle.wse_element.specs.declared.state.PartState.TheVariants.{Live, Closed, Incompatible}
use Rattle.wse_element.specs.declared.effect.Effect.{Effect}
use Rattle.wse_element.specs.declared.effect.Effect.TheVariants.{Push, MoveBack, MoveForward, Split, Drop, Invalidate, Bump, Set}
use Rattle.wse_element.specs.Content.{old_content}
use Rattle.wse_element.specs.Record.{RecordPart, Record}
use Rattle.wse_element.specs.Live.{is_live, is_live_at, is_valid_at}
use Rattle.wse_element.specs.Stacks.{has_id, closest_past, closest_future, record_of}
use Rattle.wse_element.specs.Apart.{is_apart}
use Rattle.wse_element.specs.Linked.{is_left_by}
use Rattle.wse_element.specs.Numbers.{is_bounded, are_versions_bounded, is_known_bounded}
use Rattle.wse_element.specs.State.{StacksState, Kept, stacks_of}
use Rattle.wse_element.specs.Effects.{after, after_each, begun, versions_after, versions_after_each}

-- All parts are live and valid.
abbrev pub is_whole : Record → Bool
is_whole r = list_all (λ part. is_live part.state && part.valid) r.parts

abbrev pub has_future : List Record → Path → Bool
has_future records p = is_some (closest_future records p)

-- What the part found at its path is what the closest past left there, if that is valid.
abbrev pub follows_past : List Record → RecordPart → Bool
follows_past records part = option_map_or (is_left_by part.path (old_content part.body)) (closest_past records part.path) true

-- A new record has the next free id, which is its origin too. It is done, and live and valid at all its paths. None of them
-- has a future, and at each it follows the past.
abbrev pub may_push : StacksState → Record → Bool
may_push h r =
    r.id == h.next_id && r.origin == r.id && r.done && is_whole r
    && list_all (λ part. not (has_future h.records part.path)) r.parts
    && list_all (follows_past h.records) r.parts
    && is_apart r

abbrev pub is_closest : ℕ → Option Record → Bool
is_closest id r = option_map_or (has_id id) r false

-- A record may be undone where it is done, live and valid at all its paths, and the closest past of each.
abbrev pub may_go_back : List Record → Record → Bool
may_go_back records r =
    r.done && is_whole r && list_all (λ part. is_closest r.id (closest_past records part.path)) r.parts

-- A record may be redone where it isn't done, is live and valid at all its paths, and the closest future of each.
abbrev pub may_go_forward : List Record → Record → Bool
may_go_forward records r =
    not r.done && is_whole r && list_all (λ part. is_closest r.id (closest_future records part.path)) r.parts

-- A record may be split where its edit lets it, and it has two or more parts.
abbrev pub may_split : Record → Bool
may_split r = r.splits && nat_le 2 (length r.parts)

-- There is something to lose at the path for this reason.
abbrev pub may_lose : List Record → Path → PartState → Bool
may_lose records path Live = false
may_lose records path Closed = list_any (is_live_at path) records
may_lose records path Incompatible = has_future records path

-- The effect may come here, whatever the numbers.
abbrev pub may_come : StacksState → Effect → Bool
may_come h (Push element) = may_push h element
may_come h (MoveBack id) = option_map_or (may_go_back h.records) (record_of h.records id) false
may_come h (MoveForward id) = option_map_or (may_go_forward h.records) (record_of h.records id) false
may_come h (Split id first) = option_map_or may_split (record_of h.records id) false && first == h.next_id
may_come h (Drop path reason) = may_lose h.records path reason
may_come h (Invalidate path) = list_any (is_valid_at path) h.records
may_come h (Bump path by) = true
may_come h (Set path content) = not (list_any (is_valid_at path) h.records)

-- The effect is applicable: it may come here, and leaves the numbers within their bounds, where the serial number is the one
-- that counts for it. The bounds on versions are said below.
abbrev pub is_applicable : StacksState → Effect → Bool
is_applicable h effect = may_come h effect && is_bounded (after h effect)

-- The effect sets paths of the tree. One command has one such effect at most.
abbrev pub sets_tree : Effect → Bool
sets_tree (Push element) = true
sets_tree (MoveBack id) = true
sets_tree (MoveForward id) = true
sets_tree (Set path content) = true
sets_tree _ = false

abbrev pub is_first_to_set : List Effect → Effect → Bool
is_first_to_set before effect = not (sets_tree effect && list_any sets_tree before)

-- The effect is applicable behind these of its command.
abbrev pub is_applicable_behind : StacksState → List Effect → Effect → Bool
is_applicable_behind h before effect = is_first_to_set before effect && is_applicable (after_each (begun h) before) effect

abbrev pub is_applicable_at : StacksState → List Effect → ℕ → Bool
is_applicable_at h effects i = option_map_or (is_applicable_behind h (take i effects)) (slice_get effects i) false

-- The place of the first of the command's effects that isn't applicable.
abbrev pub first_refused : StacksState → List Effect → Option ℕ
first_refused h effects = find (λ i. not (is_applicable_at h effects i)) (range_with_len 0 (length effects))

-- Each of the command's effects is applicable.
abbrev pub AreApplicable : StacksState → List Effect → Type 0
AreApplicable h effects = first_refused h effects ≡ None

-- The version stays within LSP 3.17's "integer".
abbrev pub may_bump : Numbers → Effect → Bool
may_bump versions (Bump path by) = nat_le (version_of versions path + by) (2 ^ 31 - 1)
may_bump versions _ = true

-- The effect keeps the versions within their bounds, where this is the serial number that counts for it.
abbrev pub keeps_versions : ℕ → Numbers → Effect → Bool
keeps_versions serial versions effect =
    may_bump versions effect
    && are_versions_bounded serial (versions_after versions effect)
    && is_known_bounded (versions_after versions effect)

abbrev pub keeps_versions_at : Kept → List Effect → ℕ → Bool
keeps_versions_at kept effects i =
    option_map_or (keeps_versions (kept.serial + 1) (versions_after_each kept.versions (take i effects))) (slice_get effects i) false

-- The same with the bounds on versions.
abbrev pub first_refused_of_kept : Kept → List Effect → Option ℕ
first_refused_of_kept kept effects =
    find (λ i. not (is_applicable_at (stacks_of kept) effects i && keeps_versions_at kept effects i)) (range_with_len 0 (length effects))
