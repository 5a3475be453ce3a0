-- Worked cases of the definitions: each side of an equation computes.
use Rattle.std.proofs.Common.{◌≡◌, ℕ, true, false, Bool, List, [], ◌∷◌, Some, None, refl}
use Rattle.wse_path.specs.Path.{Path}
use Rattle.wse_path.specs.Tree.{Entries}
use Rattle.wse_element.specs.declared.state.PartState.TheVariants.{Live, Closed, Incompatible}
use Rattle.wse_element.specs.declared.body.Body.TheVariants.{Whole}
use Rattle.wse_element.specs.declared.effect.Effect.TheVariants.{Push, MoveBack, MoveForward, Split, Drop, Invalidate, Bump, Set}
use Rattle.wse_element.specs.Content.{Content}
use Rattle.wse_element.specs.Record.{RecordPart, Record}
use Rattle.wse_element.specs.Stacks.{past, future, ids}
use Rattle.wse_element.specs.Losses.{lost, flushed, dropped, invalidated}
use Rattle.wse_element.specs.Split.{pieces, split}
use Rattle.wse_element.specs.State.{StacksState, Kept}
use Rattle.wse_element.specs.Effects.{after, left_by, files_after_each, kept_after}
use Rattle.wse_element.specs.Weight.{record_weight}
use Rattle.wse_element.specs.Linked.{IsLinkedAt, IsTreeLinkedAt}
use Rattle.wse_element.specs.Applicable.{may_come, is_applicable, first_refused, first_refused_of_kept}

-- two paths of one segment, and a path under the first
abbrev a : Path
a = (97 ∷ []) ∷ []

abbrev b : Path
b = (98 ∷ []) ∷ []

abbrev a-b : Path
a-b = (97 ∷ []) ∷ (98 ∷ []) ∷ []

-- a file with this one byte
abbrev file : ℕ → Content
file byte = Some (byte ∷ [])

abbrev live : Path → Content → Content → RecordPart
live p old new = record { path = p; state = Live; valid = true; body = Whole old new }

abbrev made : ℕ → Bool → Bool → List RecordPart → Record
made id splits done parts = record { id = id; origin = id; label = []; splits = splits; done = done; parts = parts }

-- both paths are made; then b is changed; then a was changed, and that is undone
abbrev first : Record
first = made 1 true true (live a None (file 1) ∷ live b None (file 2) ∷ [])

abbrev second : Record
second = made 2 false true (live b (file 2) (file 3) ∷ [])

abbrev third : Record
third = made 3 true false (live a (file 1) (file 4) ∷ [])

abbrev three : List Record
three = first ∷ second ∷ third ∷ []

abbrev history : StacksState
history = record { records = three; next_id = 4; serial = 4 }

-- a new record over b, with this old content
abbrev fourth : Content → Record
fourth old = made 4 true true (live b old (file 5) ∷ [])

abbrev fifth : Record
fifth = made 5 true true (live a-b None (file 6) ∷ [])

-- ---- weights

weight_of_an_empty_file : record_weight (made 1 true true (live a None (Some []) ∷ [])) ≡ 257
weight_of_an_empty_file = refl

weight_of_two_parts : record_weight (record { id = 1; origin = 1; label = 7 ∷ 7 ∷ []; splits = true; done = true; parts = live a-b None (file 1) ∷ lost Closed (live b (file 2) None) ∷ [] }) ≡ 521
weight_of_two_parts = refl

-- ---- splits

pieces_of_two_parts : pieces first 3 ≡ record { id = 3; origin = 1; label = []; splits = true; done = true; parts = live a None (file 1) ∷ [] } ∷ record { id = 4; origin = 1; label = []; splits = true; done = true; parts = live b None (file 2) ∷ [] } ∷ []
pieces_of_two_parts = refl

pieces_without_a_closed_part : pieces (made 1 true true (lost Closed (live a None (file 1)) ∷ live b None (file 2) ∷ [])) 3 ≡ record { id = 3; origin = 1; label = []; splits = true; done = true; parts = live b None (file 2) ∷ [] } ∷ []
pieces_without_a_closed_part = refl

-- ---- past and future

past_of_b : ids (past three b) ≡ 1 ∷ 2 ∷ []
past_of_b = refl

future_of_a : ids (future three a) ≡ 3 ∷ []
future_of_a = refl

future_of_b : ids (future three b) ≡ []
future_of_b = refl

split_in_its_place : ids (split three 1 4) ≡ 4 ∷ 5 ∷ 2 ∷ 3 ∷ []
split_in_its_place = refl

past_of_a_after_a_split : ids (past (split three 1 4) a) ≡ 4 ∷ []
past_of_a_after_a_split = refl

past_of_b_after_a_split : ids (past (split three 1 4) b) ≡ 5 ∷ 2 ∷ []
past_of_b_after_a_split = refl

-- ---- losses

flush_after_a_split : ids (flushed (split three 1 4) b) ≡ 4 ∷ 3 ∷ []
flush_after_a_split = refl

-- without a split the first record stays for the sake of a, and has no contents at b
flush_of_b : flushed three b ≡ made 1 true true (live a None (file 1) ∷ lost Closed (live b None (file 2)) ∷ []) ∷ third ∷ []
flush_of_b = refl

drop_at_a : dropped three a ≡ first ∷ second ∷ []
drop_at_a = refl

-- the state of the part says which of the two it was
drop_of_one_part : dropped (made 1 true false (live a None (file 1) ∷ live b None (file 2) ∷ []) ∷ []) a ≡ made 1 true false (lost Incompatible (live a None (file 1)) ∷ live b None (file 2) ∷ []) ∷ []
drop_of_one_part = refl

invalid_at_b : invalidated (second ∷ third ∷ []) b ≡ made 2 false true (record (live b (file 2) (file 3)) { valid = false } ∷ []) ∷ third ∷ []
invalid_at_b = refl

-- ---- effects that may come, and ones that may not

push_behind_the_past : may_come history (Push (fourth (file 3))) ≡ true
push_behind_the_past = refl

push_over_other_contents : may_come history (Push (fourth (file 9))) ≡ false
push_over_other_contents = refl

push_over_a_future : may_come history (Push (made 4 true true (live a (file 1) (file 5) ∷ []))) ≡ false
push_over_a_future = refl

push_with_another_id : may_come history (Push fifth) ≡ false
push_with_another_id = refl

push_of_a_file_under_another : may_come (record { records = []; next_id = 5; serial = 4 }) (Push (made 5 true true (live a None (file 1) ∷ live a-b None (file 2) ∷ []))) ≡ false
push_of_a_file_under_another = refl

back_from_the_closest : may_come history (MoveBack 2) ≡ true
back_from_the_closest = refl

back_from_below_another : may_come history (MoveBack 1) ≡ false
back_from_below_another = refl

back_from_what_is_undone : may_come history (MoveBack 3) ≡ false
back_from_what_is_undone = refl

forward_to_the_closest : may_come history (MoveForward 3) ≡ true
forward_to_the_closest = refl

split_of_two_parts : may_come history (Split 1 4) ≡ true
split_of_two_parts = refl

split_with_another_id : may_come history (Split 1 5) ≡ false
split_with_another_id = refl

split_of_one_part : may_come history (Split 3 4) ≡ false
split_of_one_part = refl

split_of_a_record_that_stays_whole : may_come (record { records = made 1 false true (live a None (file 1) ∷ live b None (file 2) ∷ []) ∷ []; next_id = 2; serial = 2 }) (Split 1 2) ≡ false
split_of_a_record_that_stays_whole = refl

drop_with_a_future : may_come history (Drop a Incompatible) ≡ true
drop_with_a_future = refl

drop_without_a_future : may_come history (Drop b Incompatible) ≡ false
drop_without_a_future = refl

close_what_is_live : may_come history (Drop b Closed) ≡ true
close_what_is_live = refl

close_what_is_not_live : may_come history (Drop a-b Closed) ≡ false
close_what_is_not_live = refl

invalidate_what_is_valid : may_come history (Invalidate a) ≡ true
invalidate_what_is_valid = refl

invalidate_what_is_not_there : may_come history (Invalidate a-b) ≡ false
invalidate_what_is_not_there = refl

set_where_a_part_is_valid : may_come history (Set a None) ≡ false
set_where_a_part_is_valid = refl

set_where_none_is : may_come (after history (Invalidate a)) (Set a None) ≡ true
set_where_none_is = refl

-- ---- effects of one command

-- two pushes: each may come by itself, and the second is one too many
second_push : first_refused history (Push (fourth (file 3)) ∷ Push fifth ∷ []) ≡ Some 1
second_push = refl

push_and_a_bump : first_refused history (Push (fourth (file 3)) ∷ Bump b 1 ∷ []) ≡ None
push_and_a_bump = refl

-- a split and a move of one of the pieces
split_and_move : left_by (Split 1 4 ∷ MoveBack 4 ∷ []) history ≡ record { records = record { id = 4; origin = 1; label = []; splits = true; done = false; parts = live a None (file 1) ∷ [] } ∷ record { id = 5; origin = 1; label = []; splits = true; done = true; parts = live b None (file 2) ∷ [] } ∷ second ∷ third ∷ []; next_id = 6; serial = 5 }
split_and_move = refl

split_and_move_are_applicable : first_refused history (Split 1 4 ∷ MoveBack 4 ∷ []) ≡ None
split_and_move_are_applicable = refl

-- ---- the tree and the versions

abbrev files : Entries
files = (a, 1 ∷ []) ∷ (b, 3 ∷ []) ∷ []

back_sets_the_old_content : files_after_each history (MoveBack 2 ∷ []) files ≡ (a, 1 ∷ []) ∷ (b, 2 ∷ []) ∷ []
back_sets_the_old_content = refl

forward_sets_the_new_content : files_after_each history (MoveForward 3 ∷ []) files ≡ (a, 4 ∷ []) ∷ (b, 3 ∷ []) ∷ []
forward_sets_the_new_content = refl

back_to_nothing : files_after_each history (Split 1 4 ∷ MoveBack 4 ∷ []) files ≡ (b, 3 ∷ []) ∷ []
back_to_nothing = refl

abbrev kept : Kept
kept = record { versions = (b, 3) ∷ []; records = three; next_id = 4; serial = 4 }

bumped_with_a_push : (kept_after kept (Push (fourth (file 3)) ∷ Bump b 1 ∷ [])).versions ≡ (b, 4) ∷ []
bumped_with_a_push = refl

-- a version is at most twice the serial number and one
bump_past_its_bound : first_refused_of_kept (record { versions = (b, 10) ∷ []; records = []; next_id = 1; serial = 4 }) (Bump b 1 ∷ Bump b 1 ∷ []) ≡ Some 1
bump_past_its_bound = refl

serial_past_its_bound : is_applicable (record { records = []; next_id = 1; serial = 1073741824 }) (Bump b 1) ≡ false
serial_past_its_bound = refl

-- ---- records that fit one another, and the tree

linked_at_a : IsLinkedAt three a
linked_at_a = record { done_first = refl; invalid_first = refl; meet = refl }

linked_at_b : IsLinkedAt three b
linked_at_b = record { done_first = refl; invalid_first = refl; meet = refl }

tree_linked_at_a : IsTreeLinkedAt files three a
tree_linked_at_a = record { past = refl; future = refl }

tree_linked_at_b : IsTreeLinkedAt files three b
tree_linked_at_b = record { past = refl; future = refl }
