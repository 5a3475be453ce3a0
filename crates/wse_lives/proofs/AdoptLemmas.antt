-- Adopting a tree leaves a sound state, and pushes nothing.
use Rattle.std.proofs.Common.{◌≡◌, ℕ, ◌+◌, ◌*◌, ◌-◌, ◌^◌, ◌<◌, ◌≤◌, Bool, true, false, cond, not, ◌&&◌, ◌||◌, List, [], ◌∷◌, map, Option, Some, None, is_some, refl, sym, ap, subst, ◌∙◌, arith}
use Rattle.std.specs.Prelude.{filter, nat_le}
use Rattle.std.specs.Prelude.{find as find_part}
use Rattle.std.specs.List.{list_any, list_all, AllByRecursion}
use Rattle.std.specs.Option.{option_map_or}
use Rattle.std.specs.Ordering.{eq_by_cmp, is_lt, is_eq}
use Rattle.std.specs.FinMap.{is_sorted}
use Rattle.std.specs.FinMap.{find as find_key}
use Rattle.std.specs.FinMap.Entries.{below_all}
use Rattle.std.proofs.lemmas.Bool.{and_from, or_parts, or_from, not-true, le-leb, true≢false}
use Rattle.wse_path.specs.Path.{Path}
use Rattle.wse_path.specs.Order.{path_cmp}
use Rattle.wse_path.specs.PathMap.{put_each}
use Rattle.wse_path.specs.Tree.{Entries, content, IsTree}
use Rattle.wse_path.specs.Versions.{Numbers, version_of, bumped, known}
use Rattle.wse_path.specs.declared.limits.Limits.{Limits}
use Rattle.wse_path.proofs.EntryLemmas.{and_parts, less_so}
use Rattle.wse_path.proofs.PathOrder.{same_path}
use Rattle.wse_path.proofs.PutLemmas.{sorted_put_each, has_put_each}
use Rattle.wse_element.specs.declared.effect.Effect.TheVariants.{Invalidate, Bump}
use Rattle.wse_element.specs.Record.{RecordPart, Record}
use Rattle.wse_element.specs.Live.{is_live, is_live_part_at, live_part, is_live_at, is_valid_at}
use Rattle.wse_element.specs.Stacks.{past, future, closest_past, closest_future}
use Rattle.wse_element.specs.Losses.{invalid_at, invalidated}
use Rattle.wse_element.specs.Linked.{is_left_by, is_found_by, IsLinked, IsTreeLinkedAt}
use Rattle.wse_element.specs.State.{StacksState, State, stacks_of, kept_of}
use Rattle.wse_element.specs.Effects.{after, after_each, begun, files_after_each, versions_after_each, state_after}
use Rattle.wse_element.specs.Numbers.{are_versions_bounded}
use Rattle.wse_element.proofs.LinkedLemmas.{by_paths}
use Rattle.wse_element.proofs.AfterLemmas.{IsLinked-invalidated}
use Rattle.wse_apply.specs.Limit.{limit_hit}
use Rattle.wse_history.specs.Step.{recorded}
use Rattle.wse_element.proofs.CloseLemmas.{linked_where_invalid, none_valid_there, tree_alike, zip_map}
use Rattle.wse_element.proofs.LiveLemmas.{live_part-invalid_at_other}
use Rattle.wse_element.proofs.PastLemmas.{past_invalidated, future_invalidated}
use Rattle.wse_history.proofs.Words.{are_distinct}
use Rattle.wse_history.proofs.FlushLemmas.{distinct_filtered, unequal_back}
use Rattle.wse_element.proofs.NumberLemmas.{Bounded, AreVersions, bounded_parts, bounded_from, all_put, are_versions_after}
use Rattle.wse_history.proofs.FitLemmas.{bounded_still, rise_elsewhere, rises_all, versions_begun}
use Rattle.wse_history.proofs.EditLemmas.{few_serial, more_ids}
use Rattle.wse_history.proofs.ShapeLemmas.{few_known, none_is_zero}
use Rattle.wse_element.specs.Laws.{PushesParts}
use Rattle.wse_element.proofs.FoldLemmas.{parts_each}
use Rattle.wse_lives.specs.Lives.{Makes, Comes}
use Rattle.wse_history.specs.History.{IsHistory}
use Rattle.wse_lives.specs.Adopt.{agrees_there, live_entries, with_live, live_paths, differing, adopt_each}
use Rattle.wse_lives.specs.After.{PassesNone}
use Rattle.wse_lives.specs.Laws.{AdoptingKeeps, LivesAreTrue, LinkedOverLives}
use Rattle.wse_lives.proofs.LifeLemmas.{lives_from_adopting, fresh_is_sound}
use Rattle.wse_lives.specs.Events.{fresh}
use Rattle.wse_lives.proofs.StepLemmas.{recorded_is}

-- ---- the paths at which records are live

live_there : (p : Path) (parts : List RecordPart) → is_some (find_key path_cmp p (map {B = Path × Bool} (λ part. (part.path, true)) (filter (λ part. is_live part.state) parts))) ≡ is_some (find_part (is_live_part_at p) parts)
live_there p [] = refl
live_there p (part ∷ more) =
    let rest = map {B = Path × Bool} (λ (x : RecordPart). (x.path, true)) (filter (λ x. is_live x.state) more) in
    elim (is_live part.state) as (λ b. is_some (find_key path_cmp p (map {B = Path × Bool} (λ (x : RecordPart). (x.path, true)) (cond b (part ∷ filter (λ x. is_live x.state) more) (filter (λ x. is_live x.state) more)))) ≡ is_some (cond (eq_by_cmp path_cmp p part.path && b) (Some part) (find_part (is_live_part_at p) more))) [
      | true ↦ elim (eq_by_cmp path_cmp p part.path) as (λ e. is_some (cond e (Some true) (find_key path_cmp p rest)) ≡ is_some (cond (e && true) (Some part) (find_part (is_live_part_at p) more))) [ true ↦ refl | false ↦ live_there p more ]
      | false ↦ elim (eq_by_cmp path_cmp p part.path) as (λ e. is_some (find_key path_cmp p rest) ≡ is_some (cond (e && false) (Some part) (find_part (is_live_part_at p) more))) [ true ↦ live_there p more | false ↦ live_there p more ]
    ]

-- a path that isn't among them has no live record
none_live : (p : Path) (records : List Record) (entries : List (Path × Bool)) → is_some (find_key path_cmp p (with_live records entries)) ≡ false → (is_some (find_key path_cmp p entries) ≡ false) × (list_any (is_live_at p) records ≡ false)
none_live p [] entries h = (h, refl)
none_live p (r ∷ records) entries h =
    let rest = none_live p records (put_each (live_entries r) entries) h in
    let both = or_parts (is_some (find_key path_cmp p entries)) (is_some (find_key path_cmp p (live_entries r))) (sym (has_put_each (live_entries r) entries p) ∙ rest.0) in
    (both.0, or_from (is_live_at p r) (list_any (is_live_at p) records) (sym (live_there p r.parts) ∙ both.1) rest.1)

sorted_live : (records : List Record) (entries : List (Path × Bool)) → is_sorted path_cmp entries ≡ true → is_sorted path_cmp (with_live records entries) ≡ true
sorted_live [] entries h = h
sorted_live (r ∷ records) entries h = sorted_live records (put_each (live_entries r) entries) (sorted_put_each (live_entries r) entries h)

none_later : (p : Path) (es : List (Path × Bool)) → below_all path_cmp p es ≡ true → list_any (λ q. eq_by_cmp path_cmp q p) (map (λ e. e.0) es) ≡ false
none_later p [] h = refl
none_later p (e ∷ es) h =
    let both = and_parts (is_lt (path_cmp p e.0)) (below_all path_cmp p es) h in
    or_from (eq_by_cmp path_cmp e.0 p) (list_any (λ q. eq_by_cmp path_cmp q p) (map (λ x. x.0) es)) (unequal_back p e.0 (ap is_eq (less_so (path_cmp p e.0) both.0))) (none_later p es both.1)

entries_distinct : (es : List (Path × Bool)) → is_sorted path_cmp es ≡ true → are_distinct (map (λ e. e.0) es) ≡ true
entries_distinct [] h = refl
entries_distinct (e ∷ es) h =
    let both = and_parts (below_all path_cmp e.0 es) (is_sorted path_cmp es) h in
    and_from (not (list_any (λ q. eq_by_cmp path_cmp q e.0) (map (λ x. x.0) es))) (are_distinct (map (λ x. x.0) es)) (ap not (none_later e.0 es both.0)) (entries_distinct es both.1)

abbrev among : Path → List Path → Bool
among p ps = list_any (λ q. eq_by_cmp path_cmp p q) ps

not_among : (p : Path) (es : List (Path × Bool)) → among p (map (λ e. e.0) es) ≡ is_some (find_key path_cmp p es)
not_among p [] = refl
not_among p (e ∷ es) = elim (eq_by_cmp path_cmp p e.0) as (λ b. (b || among p (map (λ x. x.0) es)) ≡ is_some (cond b (Some e.1) (find_key path_cmp p es))) [ true ↦ refl | false ↦ not_among p es ]

-- ---- where the tree doesn't differ it is linked

none_live_past : (p : Path) (test : Record → Bool) (records : List Record) → list_any (is_live_at p) records ≡ false → list_any (is_valid_at p) records ≡ false
none_live_past p test [] h = refl
none_live_past p test (r ∷ records) h =
    let both = or_parts (is_live_at p r) (list_any (is_live_at p) records) h in
    or_from (is_valid_at p r) (list_any (is_valid_at p) records) (not_valid (live_part p r) both.0) (none_live_past p test records both.1)
  where
    not_valid : (o : Option RecordPart) → is_some o ≡ false → option_map_or (λ (part : RecordPart). part.valid) o false ≡ false
    not_valid None e = refl
    not_valid (Some part) e = cc

agrees_is : (files : Entries) (records : List Record) (p : Path) → agrees_there files records p ≡ true → IsTreeLinkedAt files records p
agrees_is files records p h =
    let both = and_parts (option_map_or (is_left_by p (content files p)) (closest_past records p) true) (option_map_or (is_found_by p (content files p)) (closest_future records p) true) h in
    record { past = both.0; future = both.1 }

-- a path that passes the test isn't left out
not_left : (test : Path → Bool) (p : Path) (ps : List Path) → among p ps ≡ true → among p (filter test ps) ≡ false → ((q : Path) → eq_by_cmp path_cmp p q ≡ true → test q ≡ test p) → test p ≡ false
not_left test p [] is none same = absurd (true≢false (sym is))
not_left test p (q ∷ ps) is none same =
    elim (eq_by_cmp path_cmp p q) as (λ e. eq_by_cmp path_cmp p q ≡ e → (e || among p ps) ≡ true → test p ≡ false) [
      | true ↦ λ e _. elim (test q) as (λ t. test q ≡ t → among p (cond t (q ∷ filter test ps) (filter test ps)) ≡ false → test p ≡ false) [
        | true ↦ λ t k. absurd (true≢false (sym e ∙ (or_parts (eq_by_cmp path_cmp p q) (among p (filter test ps)) k).0))
        | false ↦ λ t k. sym (same q e) ∙ t
      ] refl none
      | false ↦ λ e k. elim (test q) as (λ t. among p (cond t (q ∷ filter test ps) (filter test ps)) ≡ false → test p ≡ false) [
        | true ↦ λ m. not_left test p ps k (or_parts (eq_by_cmp path_cmp p q) (among p (filter test ps)) m).1 same
        | false ↦ λ m. not_left test p ps k m same
      ] none
    ] refl is

not_false : (b : Bool) → not b ≡ false → b ≡ true
not_false true h = refl
not_false false h = cc

linked_elsewhere : (s : State) (p : Path) → among p (differing s) ≡ false → IsTreeLinkedAt s.files s.records p
linked_elsewhere s p none =
    elim (among p (live_paths s.records)) as (λ b. among p (live_paths s.records) ≡ b → IsTreeLinkedAt s.files s.records p) [
      | true ↦ λ e. agrees_is s.files s.records p (not_false (agrees_there s.files s.records p)
          (not_left (λ q. not (agrees_there s.files s.records q)) p (live_paths s.records) e none (λ q same. ap (λ x. not (agrees_there s.files s.records x)) (sym (same_path p q same)))))
      | false ↦ λ e. linked_where_invalid s.files s.records p (none_live_past p (λ r. r.done) s.records (none_live p s.records [] (sym (not_among p (with_live s.records [])) ∙ e)).1)
    ] refl

-- ---- the effects

no_more : (n : ℕ) → n + 0 ≡ n
no_more n = omega arith

adopt_next : (h : StacksState) (ps : List Path) → (after_each h (adopt_each ps)).next_id ≡ h.next_id
adopt_next h [] = refl
adopt_next h (p ∷ ps) = adopt_next (after (after h (Invalidate p)) (Bump p 1)) ps ∙ no_more (h.next_id + 0) ∙ no_more h.next_id

adopt_linked : (n : ℕ) (h : StacksState) (ps : List Path) → IsLinked n h.records → IsLinked n (after_each h (adopt_each ps)).records
adopt_linked n h [] linked = linked
adopt_linked n h (p ∷ ps) linked = adopt_linked n (after (after h (Invalidate p)) (Bump p 1)) ps (IsLinked-invalidated n h.records p linked)

tree_invalidated : (files : Entries) (records : List Record) (q p : Path) → IsTreeLinkedAt files records p → IsTreeLinkedAt files (invalidated records q) p
tree_invalidated files records q p linked =
    by_paths p q (λ x. IsTreeLinkedAt files records x → IsTreeLinkedAt files (invalidated records q) x)
    (λ _. linked_where_invalid files (invalidated records q) q (none_valid_there q records))
    (λ other is. tree_alike files files records (invalidated records q) p refl
    (zip_map p (invalid_at q) (λ r. live_part-invalid_at_other p q r other) (past records p) (past (invalidated records q) p) (past_invalidated records q p))
    (zip_map p (invalid_at q) (λ r. live_part-invalid_at_other p q r other) (future records p) (future (invalidated records q) p) (future_invalidated records q p)) is)
    linked

adopt_tree : (files : Entries) (h : StacksState) (ps : List Path) (p : Path) → (among p ps ≡ false → IsTreeLinkedAt files h.records p) → IsTreeLinkedAt files (after_each h (adopt_each ps)).records p
adopt_tree files h [] p linked = linked refl
adopt_tree files h (q ∷ ps) p linked =
    adopt_tree files (after (after h (Invalidate q)) (Bump q 1)) ps p
    (λ none. by_paths p q (λ x. IsTreeLinkedAt files (invalidated h.records q) x)
    (linked_where_invalid files (invalidated h.records q) q (none_valid_there q h.records))
    (λ other. tree_invalidated files h.records q p (linked (or_from (eq_by_cmp path_cmp p q) (among p ps) other none))))

adopt_room : (h : StacksState) (ps : List Path) → Bounded h → Bounded (after_each h (adopt_each ps))
adopt_room h [] room = room
adopt_room h (p ∷ ps) room =
    let invalid = after h (Invalidate p) in
    adopt_room (after invalid (Bump p 1)) ps (bounded_still invalid (Bump p 1) tt refl (bounded_still h (Invalidate p) tt refl room))

adopt_versions : (serial : ℕ) (versions : Numbers) (ps : List Path) → are_versions_bounded serial versions ≡ true → are_distinct ps ≡ true → list_all (λ p. nat_le (version_of versions p + 1) (2 * serial + 1)) ps ≡ true
    → are_versions_bounded serial (versions_after_each versions (adopt_each ps)) ≡ true
adopt_versions serial versions [] bounded distinct rise = bounded
adopt_versions serial versions (p ∷ ps) bounded distinct rise =
    let d = and_parts (not (list_any (λ q. eq_by_cmp path_cmp q p) ps)) (are_distinct ps) distinct in
    let r = and_parts (nat_le (version_of versions p + 1) (2 * serial + 1)) (list_all (λ q. nat_le (version_of versions q + 1) (2 * serial + 1)) ps) rise in
    adopt_versions serial (bumped versions p 1) ps (all_put (λ n. nat_le n (2 * serial + 1)) p (version_of versions p + 1) versions r.0 bounded) d.1
    (rise_elsewhere (2 * serial + 1) versions p ps (not-true (list_any (λ q. eq_by_cmp path_cmp q p) ps) d.0) r.1)

adopt_are : (versions : Numbers) (ps : List Path) → AreVersions versions → AreVersions (versions_after_each versions (adopt_each ps))
adopt_are versions [] are = are
adopt_are versions (p ∷ ps) are =
    let one : 0 < 1 = omega arith in
    adopt_are (bumped versions p 1) ps (are_versions_after versions (Bump p 1) one are)

adopt_serial : (h : StacksState) (ps : List Path) → (after_each h (adopt_each ps)).serial ≡ h.serial
adopt_serial h [] = refl
adopt_serial h (p ∷ ps) = adopt_serial (after (after h (Invalidate p)) (Bump p 1)) ps

adopt_files : (h : StacksState) (ps : List Path) (files : Entries) → files_after_each h (adopt_each ps) files ≡ files
adopt_files h [] files = refl
adopt_files h (p ∷ ps) files = adopt_files (after (after h (Invalidate p)) (Bump p 1)) ps files

adopt_parts : (ps : List Path) → AllByRecursion PushesParts (adopt_each ps)
adopt_parts [] = tt
adopt_parts (p ∷ ps) = (tt, (tt, adopt_parts ps))

adopt_makes : (s next : State) (ps : List Path) → AllByRecursion (Makes s next) (adopt_each ps)
adopt_makes s next [] = tt
adopt_makes s next (p ∷ ps) = (tt, (tt, adopt_makes s next ps))

-- ---- the state

module _ (limits : Limits) (s : State) (files : Entries) (sound : IsHistory s limits) (tree : IsTree files) (fits : limit_hit limits files ≡ None) where
  abbrev found : State
  found = record s { files = files }

  abbrev now : StacksState
  now = begun (stacks_of (kept_of s))

  distinct : are_distinct (differing found) ≡ true
  distinct = distinct_filtered (λ p. not (agrees_there files s.records p)) (live_paths s.records) (entries_distinct (with_live s.records []) (sorted_live s.records [] refl))

  sound_after : (ps : List Path) → are_distinct ps ≡ true → ((p : Path) → among p ps ≡ false → IsTreeLinkedAt files s.records p) → PassesNone limits (state_after found (adopt_each ps)) → IsHistory (state_after found (adopt_each ps)) limits
  sound_after ps once elsewhere none =
      let next = state_after found (adopt_each ps) in
      let linked = sound.linked in
      let serial : next.serial ≡ s.serial + 1 = adopt_serial now ps in
      let is : next.files ≡ files = adopt_files (stacks_of (kept_of s)) ps files in
      let room = bounded_parts (stacks_of (kept_of s)) linked.kept.bounded in
      let small = subst (λ n. n ≤ 2 ^ 30 - 1) serial (few_serial limits next sound.within none.0) in
      let are = adopt_are s.versions ps (record { rise = linked.kept.rise; some = linked.kept.some }) in
      record {
        linked = record {
          kept = record {
            rise = are.rise;
            some = are.some;
            records = subst (λ n. IsLinked n next.records) (sym (adopt_next now ps)) (adopt_linked s.next_id now ps linked.kept.records);
            bounded = bounded_from (after_each now (adopt_each ps)) (adopt_room now ps (record { serial = small; some = room.some; ids = more_ids s.next_id s.serial room.ids; weight = room.weight }));
            versions = subst (λ n. are_versions_bounded n next.versions ≡ true) (sym serial)
                (adopt_versions (s.serial + 1) s.versions ps (versions_begun s.serial s.versions linked.kept.versions) once (rises_all s.serial s.versions ps linked.kept.versions));
            known = le-leb (known next.versions) (2 ^ 29) (few_known limits next sound.within none.1);
          };
          tree = subst IsTree (sym is) tree;
          each = λ p. subst (λ x. IsTreeLinkedAt x next.records p) (sym is) (adopt_tree files now ps p (elsewhere p));
        };
        parts = parts_each now (adopt_each ps) sound.parts (adopt_parts ps);
        told = none_is_zero next.versions are.some;
        within = sound.within;
        fits = ap (limit_hit limits) is ∙ fits;
      }

  nothing_differs : ((p : Path) → IsTreeLinkedAt files s.records p) → IsHistory found limits
  nothing_differs each = record {
    linked = record { kept = sound.linked.kept; tree = tree; each = each };
    parts = sound.parts;
    told = sound.told;
    within = sound.within;
    fits = fits;
  }

  record Both (next : State) : Type 0 where
    sound_then : IsHistory next limits
    comes : Comes s next

  adopting : (ps : List Path) → are_distinct ps ≡ true → ((p : Path) → among p ps ≡ false → IsTreeLinkedAt files s.records p) → PassesNone limits (recorded found (adopt_each ps)) → Both (recorded found (adopt_each ps))
  adopting [] once elsewhere none = record {
    sound_then = nothing_differs (λ p. elsewhere p refl);
    comes = record { effects = []; records = refl; makes = tt; parts = sound.parts; numbered = sound.linked.kept.records.numbered };
  }
  adopting (p ∷ ps) once elsewhere none =
      let effects = adopt_each (p ∷ ps) in
      let is = recorded_is found effects (λ k. cc) in
      subst Both (sym is) (record {
        sound_then = sound_after (p ∷ ps) once elsewhere (subst (PassesNone limits) is none);
        comes = record { effects = effects; records = refl; makes = adopt_makes s (state_after found effects) (p ∷ ps); parts = sound.parts; numbered = sound.linked.kept.records.numbered };
      })

pub adopting_keeps : AdoptingKeeps
adopting_keeps limits s files sound tree fits none =
    let both = adopting limits s files sound tree fits (differing (record s { files = files })) (distinct limits s files sound tree fits) (linked_elsewhere (record s { files = files })) none in
    (both.sound_then, both.comes)

pub lives_are_true : LivesAreTrue
lives_are_true = lives_from_adopting adopting_keeps

pub linked_over_lives : LinkedOverLives
linked_over_lives limits files events within tree fits known_fits lives =
    let true_one = lives_are_true limits (fresh files) events (fresh_is_sound limits files within tree fits known_fits) lives in
    (true_one.sound.linked, true_one.agree)
