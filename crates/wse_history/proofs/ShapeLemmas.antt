-- What each shape of a move's effects gives.
use Rattle.std.proofs.Common.{◌≡◌, ◌≢◌, ℕ, ◌+◌, ◌-◌, ◌*◌, ◌^◌, ◌<◌, ◌≤◌, true, false, cond, not, ◌&&◌, List, [], ◌∷◌, ◌++◌, map, Option, Some, None, refl, sym, ap, subst, ◌∙◌, arith}
use Rattle.std.specs.Prelude.{nat_le, nat_lt}
use Rattle.std.specs.FinMap.{find as find_key}
use Rattle.std.specs.Ordering.{eq_by_cmp}
use Rattle.wse_path.specs.Order.{path_cmp}
use Rattle.std.specs.List.{list_any, AllByRecursion}
use Rattle.std.specs.Option.{option_or, option_map_or}
use Rattle.std.proofs.lemmas.Bool.{and_from, le-leb, leb-true, ltb-false, true≢false}
use Rattle.wse_path.specs.Path.{Path}
use Rattle.wse_path.specs.Tree.{Entries, set_files, IsTree}
use Rattle.wse_path.specs.Versions.{Numbers, known}
use Rattle.wse_path.specs.Limits.{standard}
use Rattle.wse_path.specs.declared.command.Direction.{Direction}
use Rattle.wse_path.specs.declared.command.Direction.TheVariants.{Back, Forward}
use Rattle.wse_path.specs.declared.limits.Hit.{Hit}
use Rattle.wse_path.specs.declared.limits.Limits.{Limits}
use Rattle.wse_path.specs.declared.limits.Which.{Which}
use Rattle.wse_path.specs.declared.limits.Which.TheVariants.{Known, Serial}
use Rattle.wse_path.proofs.EntryLemmas.{and_parts}
use Rattle.wse_element.specs.declared.state.PartState.TheVariants.{Closed}
use Rattle.wse_element.specs.declared.effect.Effect.{Effect}
use Rattle.wse_element.specs.declared.effect.Effect.TheVariants.{MoveBack, MoveForward, Split, Drop, Bump}
use Rattle.wse_element.specs.Record.{Record, AreParts}
use Rattle.wse_element.specs.Stacks.{record_of}
use Rattle.wse_element.specs.State.{StacksState, State, stacks_of, kept_of}
use Rattle.wse_element.specs.Effects.{after, begun, contents_set, files_after_each, versions_after_each, state_after}
use Rattle.wse_element.specs.Numbers.{is_bounded, are_versions_bounded, is_known_bounded, are_some}
use Rattle.wse_element.specs.Applicable.{may_come, sets_tree}
use Rattle.wse_apply.specs.Limit.{hit_above, hit_by, limit_hit, are_within}
use Rattle.wse_rules.specs.Ruling.{all_paths}
use Rattle.wse_history.specs.declared.answer.Answer.{Answer}
use Rattle.wse_history.proofs.FlushLemmas.{parts_distinct}
use Rattle.wse_history.proofs.GoLemmas.{moves_tree}
use Rattle.wse_element.proofs.NumberLemmas.{less_than, Bounded, bounded_parts, bounded_from}
use Rattle.wse_element.proofs.FallLemmas.{bounded_after}
use Rattle.wse_element.proofs.TreeLemmas.{parts_of_found}
use Rattle.wse_history.proofs.FitLemmas.{bounded_still, VersionsFit, apply_drops, apply_bumps, rises_all, versions_begun}
use Rattle.wse_element.specs.Laws.{PushesParts, AllApply, Raises}
use Rattle.wse_element.proofs.FoldLemmas.{state_stays, none_refused, parts_each, next_id_some, serial_stays}
use Rattle.wse_history.specs.Outcome.{stays, records, is_some_of, bump_each}
use Rattle.wse_history.specs.Limits.{serial_hit, known_hit, hit_of, within_limits}
use Rattle.wse_element.specs.Way.{in_the_way}
use Rattle.wse_history.specs.History.{IsHistory, HasNoZero}
use Rattle.wse_history.specs.Laws.{MayApply}
use Rattle.wse_history.specs.Moves.{move_effect}
use Rattle.wse_history.proofs.Words.{AreLinked, are_distinct, AllMayCome}

zero_not_some : (n : ℕ) → nat_lt 0 n ≡ true → ◌≡◌ {A = Option ℕ} (Some n) (Some 0) → ⊥
zero_not_some n h e =
    let same : n ≡ 0 = cc in
    true≢false (sym h ∙ ap (nat_lt 0) same)

pub none_is_zero : (versions : Numbers) → are_some versions ≡ true → HasNoZero versions
none_is_zero [] all q e = cc
none_is_zero (v ∷ versions) all q e =
    let both = and_parts (nat_lt 0 v.1) (are_some versions) all in
    elim (eq_by_cmp path_cmp q v.0) as (λ b. cond b (Some v.1) (find_key path_cmp q versions) ≡ Some 0 → ⊥) [
      | true ↦ λ k. zero_not_some v.1 both.0 k
      | false ↦ λ k. none_is_zero versions both.1 q k
    ] e

-- The state in which the command's effects come.
abbrev pub now : State → StacksState
now s = begun (stacks_of (kept_of s))

pub linked_now : (limits : Limits) (s : State) → IsHistory s limits → AreLinked (now s)
linked_now limits s set = record { parts = set.parts; linked = set.linked.kept.records }

-- What is shown of effects, so that they may apply.
pub record Comes (limits : Limits) (s : State) (effects : List Effect) : Type 0 where
  pub apply : AllApply (s.serial + 1) (now s) s.versions [] effects
  pub pushes : AllByRecursion PushesParts effects
  pub raises : AllByRecursion Raises effects
  pub tree : IsTree (state_after s effects).files
  pub fits : limit_hit limits (state_after s effects).files ≡ None

pub may_apply : (limits : Limits) (s : State) (effects : List Effect) → IsHistory s limits → effects ≢ [] → Comes limits s effects → MayApply limits s effects
may_apply limits s effects set some comes =
    let applicable = none_refused.refused (kept_of s) effects comes.apply in
    let linked = state_stays s effects set.parts comes.pushes comes.raises some applicable set.linked comes.tree in
    record {
      applicable = applicable;
      state = record {
        linked = linked;
        parts = parts_each (now s) effects set.parts comes.pushes;
        told = none_is_zero (state_after s effects).versions linked.kept.some;
        within = set.within;
        fits = comes.fits;
      };
    }

-- ---- limits

or_none : (a b : Option Hit) → option_or a b ≡ None → (a ≡ None) × (b ≡ None)
or_none None b h = (refl, h)
or_none (Some x) b h = cc

above_none : (which : Which) (limit number : ℕ) → hit_above which limit number ≡ None → number ≤ limit
above_none which limit number h =
    elim (nat_lt limit number) as (λ b. nat_lt limit number ≡ b → cond b (Some (hit_by which number)) None ≡ None → number ≤ limit) [
      | true ↦ λ e k. cc
      | false ↦ λ e k. ltb-false limit number e
    ] refl h

-- Limits that aren't above the program's.
pub record Within (limits : Limits) : Type 0 where
  pub serial : limits.serial ≤ 2 ^ 30 - 1
  pub known : limits.known ≤ 2 ^ 29
  pub file_bytes : limits.file_bytes ≤ 2 ^ 24

pub within_of : (limits : Limits) → are_within limits standard ≡ true → Within limits
within_of limits h =
    let five = nat_le limits.files 65536 && nat_le limits.file_bytes 16777216 && nat_le limits.tree_bytes 268435456 && nat_le limits.known 536870912 && nat_le limits.weight 536870912 in
    let four = nat_le limits.files 65536 && nat_le limits.file_bytes 16777216 && nat_le limits.tree_bytes 268435456 && nat_le limits.known 536870912 in
    let three = nat_le limits.files 65536 && nat_le limits.file_bytes 16777216 && nat_le limits.tree_bytes 268435456 in
    let a = and_parts five (nat_le limits.serial 1073741823) h in
    let b = and_parts four (nat_le limits.weight 536870912) a.0 in
    let c = and_parts three (nat_le limits.known 536870912) b.0 in
    let d = and_parts (nat_le limits.files 65536 && nat_le limits.file_bytes 16777216) (nat_le limits.tree_bytes 268435456) c.0 in
    let e = and_parts (nat_le limits.files 65536) (nat_le limits.file_bytes 16777216) d.0 in
    record { serial = leb-true limits.serial 1073741823 a.1; known = leb-true limits.known 536870912 c.1; file_bytes = leb-true limits.file_bytes 16777216 e.1 }

-- what is known stays in its bound
pub few_known : (limits : Limits) (s : State) → are_within limits standard ≡ true → known_hit limits s ≡ None → known s.versions ≤ 2 ^ 29
few_known limits s within none = less_than (known s.versions) limits.known (2 ^ 29) (above_none Known limits.known (known s.versions) none) (within_of limits within).known

-- the serial number stays in its bound
pub serial_within : (limits : Limits) (s : State) (effects : List Effect) → IsHistory s limits → hit_of limits effects (state_after s effects) ≡ None → s.serial + 1 ≤ 2 ^ 30 - 1
serial_within limits s effects set none =
    let next = state_after s effects in
    let hits = or_none (serial_hit limits next) (cond (list_any sets_tree effects) (option_or (known_hit limits next) (limit_hit limits next.files)) None) none in
    subst (λ n. n ≤ 2 ^ 30 - 1) (serial_stays (now s) effects)
    (less_than next.serial limits.serial (2 ^ 30 - 1) (above_none Serial limits.serial next.serial hits.0) (within_of limits set.within).serial)

-- where the tree is set, what is known and the tree's own limits too
pub set_within : (limits : Limits) (s : State) (effects : List Effect) → IsHistory s limits → list_any sets_tree effects ≡ true → hit_of limits effects (state_after s effects) ≡ None
    → (is_known_bounded (state_after s effects).versions ≡ true) × (limit_hit limits (state_after s effects).files ≡ None)
set_within limits s effects set sets none =
    let next = state_after s effects in
    let hits = or_none (serial_hit limits next) (cond (list_any sets_tree effects) (option_or (known_hit limits next) (limit_hit limits next.files)) None) none in
    let more = or_none (known_hit limits next) (limit_hit limits next.files) (sym (ap (λ b. cond b (option_or (known_hit limits next) (limit_hit limits next.files)) None) sets) ∙ hits.1) in
    (le-leb (known next.versions) (2 ^ 29) (less_than (known next.versions) limits.known (2 ^ 29) (above_none Known limits.known (known next.versions) more.0) (within_of limits set.within).known), more.1)

-- what holds of no effects, and of these where they pass no limit, holds of what is recorded within limits
pub limited : (limits : Limits) (s : State) (effects : List Effect) (refused : Hit → Answer) (done : State → Answer) (P : List Effect → Type 0) → P [] → (hit_of limits effects (state_after s effects) ≡ None → P effects)
    → P (within_limits limits s effects refused done).effects
limited limits s effects refused done P nothing these =
    let next = state_after s effects in
    elim (hit_of limits effects next) as (λ o. hit_of limits effects next ≡ o → P (option_map_or (λ hit. stays (refused hit)) o (records effects (done next))).effects) [
      | None ↦ λ e. these e
      | Some hit ↦ λ e. nothing
    ] refl

-- ---- the numbers at the start

more_ids : (next serial : ℕ) → next ≤ 1 + serial * 2 ^ 32 → next ≤ 1 + (serial + 1) * 2 ^ 32
more_ids next serial h = omega arith

more_for_a_split : (next serial : ℕ) → next ≤ 1 + serial * 2 ^ 32 → next + 2 ^ 21 ≤ 1 + (serial + 1) * 2 ^ 32
more_for_a_split next serial h = omega arith

pub room_now : (limits : Limits) (s : State) → IsHistory s limits → s.serial + 1 ≤ 2 ^ 30 - 1 → Bounded (now s)
room_now limits s set small =
    let room = bounded_parts (stacks_of (kept_of s)) set.linked.kept.bounded in
    record { serial = small; some = room.some; ids = more_ids s.next_id s.serial room.ids; weight = room.weight }

pub kept_now : (limits : Limits) (s : State) → IsHistory s limits → VersionsFit (s.serial + 1) s.versions
kept_now limits s set = record { bounded = versions_begun s.serial s.versions set.linked.kept.versions; known = set.linked.kept.known }

pub split_room : (limits : Limits) (s : State) (id : ℕ) → IsHistory s limits → s.serial + 1 ≤ 2 ^ 30 - 1 → Bounded (after (now s) (Split id s.next_id))
split_room limits s id set small =
    let room = bounded_parts (stacks_of (kept_of s)) set.linked.kept.bounded in
    bounded_after (now s) (Split id s.next_id) tt (more_for_a_split s.next_id s.serial room.ids) (room_now limits s set small)

-- a linked state's next id is some
pub positive_of : (limits : Limits) (s : State) → IsHistory s limits → 0 < s.next_id
positive_of limits s set = next_id_some (stacks_of (kept_of s)) set.linked.kept.bounded

-- ---- files

pub files_drops : (h : StacksState) (ps : List Path) (files : Entries) → files_after_each h (map (λ p. Drop p Closed) ps) files ≡ files
files_drops h [] files = refl
files_drops h (p ∷ ps) files = files_drops (after h (Drop p Closed)) ps files

pub files_bumps : (h : StacksState) (ps : List Path) (files : Entries) → files_after_each h (bump_each ps) files ≡ files
files_bumps h [] files = refl
files_bumps h (p ∷ ps) files = files_bumps (after h (Bump p 1)) ps files

drops_raise : (ps : List Path) → AllByRecursion Raises (map (λ p. Drop p Closed) ps)
drops_raise [] = tt
drops_raise (p ∷ ps) = (tt, drops_raise ps)

bumps_raise : (ps : List Path) → AllByRecursion Raises (bump_each ps)
bumps_raise [] = tt
bumps_raise (p ∷ ps) = (omega arith, bumps_raise ps)

pub drops_push : (ps : List Path) → AllByRecursion PushesParts (map (λ p. Drop p Closed) ps)
drops_push [] = tt
drops_push (p ∷ ps) = (tt, drops_push ps)

pub bumps_push : (ps : List Path) → AllByRecursion PushesParts (bump_each ps)
bumps_push [] = tt
bumps_push (p ∷ ps) = (tt, bumps_push ps)

-- ---- drops

pub drops_come : (limits : Limits) (s : State) (ps : List Path) → IsHistory s limits → s.serial + 1 ≤ 2 ^ 30 - 1 → AllMayCome (now s) (map (λ p. Drop p Closed) ps) → Comes limits s (map (λ p. Drop p Closed) ps)
drops_come limits s ps set small may = record {
  apply = apply_drops (s.serial + 1) (now s) s.versions [] ps (kept_now limits s set) (room_now limits s set small) may;
  pushes = drops_push ps;
  raises = drops_raise ps;
  tree = subst IsTree (sym (files_drops (stacks_of (kept_of s)) ps s.files)) set.linked.tree;
  fits = ap (limit_hit limits) (files_drops (stacks_of (kept_of s)) ps s.files) ∙ set.fits;
}

pub split_first : (limits : Limits) (s : State) (id : ℕ) (rest : List Effect) → IsHistory s limits → s.serial + 1 ≤ 2 ^ 30 - 1 → may_come (now s) (Split id s.next_id) ≡ true
    → AllApply (s.serial + 1) (after (now s) (Split id s.next_id)) s.versions (Split id s.next_id ∷ []) rest → AllApply (s.serial + 1) (now s) s.versions [] (Split id s.next_id ∷ rest)
split_first limits s id rest set small may all =
    let kept = kept_now limits s set in (
      refl,
      and_from (may_come (now s) (Split id s.next_id)) (is_bounded (after (now s) (Split id s.next_id))) may (bounded_from (after (now s) (Split id s.next_id)) (split_room limits s id set small)),
      and_from (are_versions_bounded (s.serial + 1) s.versions) (is_known_bounded s.versions) kept.bounded kept.known,
      all,
    )

pub split_drops_come : (limits : Limits) (s : State) (id : ℕ) (ps : List Path) → IsHistory s limits → s.serial + 1 ≤ 2 ^ 30 - 1 → may_come (now s) (Split id s.next_id) ≡ true → AllMayCome (after (now s) (Split id s.next_id)) (map (λ p. Drop p Closed) ps)
    → Comes limits s (Split id s.next_id ∷ map (λ p. Drop p Closed) ps)
split_drops_come limits s id ps set small first may =
    let start = stacks_of (kept_of s) in
    record {
      apply = split_first limits s id (map (λ p. Drop p Closed) ps) set small first
          (apply_drops (s.serial + 1) (after (now s) (Split id s.next_id)) s.versions (Split id s.next_id ∷ []) ps (kept_now limits s set) (split_room limits s id set small) may);
      pushes = (tt, drops_push ps);
      raises = (tt, drops_raise ps);
      tree = subst IsTree (sym (files_drops (after start (Split id s.next_id)) ps s.files)) set.linked.tree;
      fits = ap (limit_hit limits) (files_drops (after start (Split id s.next_id)) ps s.files) ∙ set.fits;
    }

-- ---- moves

distinct_with : (records : List Record) (id : ℕ) (o : Option Record) → AllByRecursion (λ x. AreParts x.parts) records → record_of records id ≡ o → are_distinct (option_map_or all_paths o []) ≡ true
distinct_with records id None all is = refl
distinct_with records id (Some r) all is = parts_distinct r.parts (parts_of_found records id r all is).rise

abbrev pub paths_of : List Record → ℕ → List Path
paths_of records id = option_map_or all_paths (record_of records id) []

pub paths_distinct : (records : List Record) (id : ℕ) → AllByRecursion (λ x. AreParts x.parts) records → are_distinct (paths_of records id) ≡ true
paths_distinct records id all = distinct_with records id (record_of records id) all refl

-- the move and its bumps, behind effects that don't set the tree
pub move_applies : (limits : Limits) (s : State) (direction : Direction) (h : StacksState) (before : List Effect) (id : ℕ) (paths : List Path) → IsHistory s limits → s.serial + 1 ≤ 2 ^ 30 - 1 → list_any sets_tree before ≡ false → Bounded h
    → may_come h (move_effect direction id) ≡ true → are_distinct paths ≡ true → is_known_bounded (versions_after_each s.versions (bump_each paths)) ≡ true → AllApply (s.serial + 1) h s.versions before (move_effect direction id ∷ bump_each paths)
move_applies limits s Back h before id paths set small none room may distinct end =
    let kept = kept_now limits s set in
    let next = bounded_still h (MoveBack id) tt refl room in (
      ap not none,
      and_from (may_come h (MoveBack id)) (is_bounded (after h (MoveBack id))) may (bounded_from (after h (MoveBack id)) next),
      and_from (are_versions_bounded (s.serial + 1) s.versions) (is_known_bounded s.versions) kept.bounded kept.known,
      apply_bumps (s.serial + 1) (after h (MoveBack id)) s.versions (before ++ MoveBack id ∷ []) paths small next kept.bounded distinct (rises_all s.serial s.versions paths set.linked.kept.versions) end,
    )
move_applies limits s Forward h before id paths set small none room may distinct end =
    let kept = kept_now limits s set in
    let next = bounded_still h (MoveForward id) tt refl room in (
      ap not none,
      and_from (may_come h (MoveForward id)) (is_bounded (after h (MoveForward id))) may (bounded_from (after h (MoveForward id)) next),
      and_from (are_versions_bounded (s.serial + 1) s.versions) (is_known_bounded s.versions) kept.bounded kept.known,
      apply_bumps (s.serial + 1) (after h (MoveForward id)) s.versions (before ++ MoveForward id ∷ []) paths small next kept.bounded distinct (rises_all s.serial s.versions paths set.linked.kept.versions) end,
    )

pub nothing_in : {X : Type 0} (xs : List X) → is_some_of xs ≡ false → xs ≡ []
nothing_in [] h = refl
nothing_in (x ∷ xs) h = absurd (true≢false h)

pub move_comes : (limits : Limits) (s : State) (direction : Direction) (id : ℕ) → IsHistory s limits → may_come (now s) (move_effect direction id) ≡ true → in_the_way s.files (contents_set s.records (move_effect direction id)) ≡ []
    → hit_of limits (move_effect direction id ∷ bump_each (paths_of s.records id)) (state_after s (move_effect direction id ∷ bump_each (paths_of s.records id))) ≡ None
    → Comes limits s (move_effect direction id ∷ bump_each (paths_of s.records id))
move_comes limits s Back id set may free none =
    let paths = paths_of s.records id in
    let effects = MoveBack id ∷ bump_each paths in
    let small = serial_within limits s effects set none in
    let more = set_within limits s effects set refl none in
    record {
      apply = move_applies limits s Back (now s) [] id paths set small refl (room_now limits s set small) may (paths_distinct s.records id set.parts) more.0;
      pushes = (tt, bumps_push paths);
      raises = (tt, bumps_raise paths);
      tree = subst IsTree (sym (files_bumps (after (stacks_of (kept_of s)) (MoveBack id)) paths (set_files (contents_set s.records (MoveBack id)) s.files))) (moves_tree Back (now s) id s.files (linked_now limits s set) may set.linked.tree free);
      fits = more.1;
    }
move_comes limits s Forward id set may free none =
    let paths = paths_of s.records id in
    let effects = MoveForward id ∷ bump_each paths in
    let small = serial_within limits s effects set none in
    let more = set_within limits s effects set refl none in
    record {
      apply = move_applies limits s Forward (now s) [] id paths set small refl (room_now limits s set small) may (paths_distinct s.records id set.parts) more.0;
      pushes = (tt, bumps_push paths);
      raises = (tt, bumps_raise paths);
      tree = subst IsTree (sym (files_bumps (after (stacks_of (kept_of s)) (MoveForward id)) paths (set_files (contents_set s.records (MoveForward id)) s.files))) (moves_tree Forward (now s) id s.files (linked_now limits s set) may set.linked.tree free);
      fits = more.1;
    }

-- the same after a split
abbrev pub split_now : State → ℕ → StacksState
split_now s id = after (now s) (Split id s.next_id)

pub split_move_comes : (limits : Limits) (s : State) (direction : Direction) (asked id : ℕ) → IsHistory s limits → AreLinked (split_now s asked) → may_come (now s) (Split asked s.next_id) ≡ true → may_come (split_now s asked) (move_effect direction id) ≡ true
    → in_the_way s.files (contents_set (split_now s asked).records (move_effect direction id)) ≡ []
    → hit_of limits (Split asked s.next_id ∷ move_effect direction id ∷ bump_each (paths_of (split_now s asked).records id)) (state_after s (Split asked s.next_id ∷ move_effect direction id ∷ bump_each (paths_of (split_now s asked).records id))) ≡ None
    → Comes limits s (Split asked s.next_id ∷ move_effect direction id ∷ bump_each (paths_of (split_now s asked).records id))
split_move_comes limits s Back asked id set all first may free none =
    let h = split_now s asked in
    let paths = paths_of h.records id in
    let effects = Split asked s.next_id ∷ MoveBack id ∷ bump_each paths in
    let small = serial_within limits s effects set none in
    let more = set_within limits s effects set refl none in
    record {
      apply = split_first limits s asked (MoveBack id ∷ bump_each paths) set small first
          (move_applies limits s Back h (Split asked s.next_id ∷ []) id paths set small refl (split_room limits s asked set small) may (paths_distinct h.records id all.parts) more.0);
      pushes = (tt, (tt, bumps_push paths));
      raises = (tt, (tt, bumps_raise paths));
      tree = subst IsTree (sym (files_bumps (after (after (stacks_of (kept_of s)) (Split asked s.next_id)) (MoveBack id)) paths (set_files (contents_set h.records (MoveBack id)) s.files))) (moves_tree Back h id s.files all may set.linked.tree free);
      fits = more.1;
    }
split_move_comes limits s Forward asked id set all first may free none =
    let h = split_now s asked in
    let paths = paths_of h.records id in
    let effects = Split asked s.next_id ∷ MoveForward id ∷ bump_each paths in
    let small = serial_within limits s effects set none in
    let more = set_within limits s effects set refl none in
    record {
      apply = split_first limits s asked (MoveForward id ∷ bump_each paths) set small first
          (move_applies limits s Forward h (Split asked s.next_id ∷ []) id paths set small refl (split_room limits s asked set small) may (paths_distinct h.records id all.parts) more.0);
      pushes = (tt, (tt, bumps_push paths));
      raises = (tt, (tt, bumps_raise paths));
      tree = subst IsTree (sym (files_bumps (after (after (stacks_of (kept_of s)) (Split asked s.next_id)) (MoveForward id)) paths (set_files (contents_set h.records (MoveForward id)) s.files))) (moves_tree Forward h id s.files all may set.linked.tree free);
      fits = more.1;
    }
