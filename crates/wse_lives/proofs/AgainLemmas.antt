-- A redo right after an undo gives back what was there before the undo.
use Rattle.std.proofs.Common.{◌≡◌, inl, inr, ℕ, ◌+◌, ◌-◌, ◌^◌, ◌<◌, ◌≤◌, min, Bool, true, false, cond, not, ◌&&◌, ◌||◌, List, [], ◌∷◌, ◌++◌, map, length, Option, Some, None, is_some, refl, sym, ap, subst, ◌∙◌, arith}
use Rattle.std.specs.Prelude.{filter, nat_le, nat_lt, option_map, option_and_then}
use Rattle.std.specs.Prelude.{find as find_part}
use Rattle.std.specs.List.{list_any, list_all, AllByRecursion}
use Rattle.std.specs.Option.{option_map_or, option_or, unwrap_or}
use Rattle.std.specs.Ordering.{eq_by_cmp, is_eq, is_lt}
use Rattle.std.specs.FinMap.{put, is_sorted}
use Rattle.std.specs.FinMap.{find as find_key}
use Rattle.std.specs.FinMap.Entries.{below_all, find-put, same_entries}
use Rattle.std.specs.Cmp.Lexicographic.{lists_total, nat_list_cmp_total}
use Rattle.std.proofs.lemmas.Bool.{or_parts, or_from, not-true, eq-eqb, eqb-true, le-ltb}
use Rattle.std.proofs.lemmas.Option.{same_Some}
use Rattle.wse_path.specs.Path.{Path, is_under}
use Rattle.wse_path.specs.Order.{path_cmp}
use Rattle.wse_path.specs.declared.change.Numbered.{Numbered}
use Rattle.wse_path.specs.declared.command.Command.TheVariants as commands
use Rattle.wse_path.specs.declared.limits.Hit.{Hit}
use Rattle.wse_path.specs.declared.limits.Limits.{Limits}
use Rattle.wse_path.specs.declared.limits.Which.{Which}
use Rattle.wse_path.specs.declared.limits.Which.TheVariants.{Known, Serial}
use Rattle.wse_path.proofs.ContentLemmas.{sorted_set_files}
use Rattle.wse_path.specs.Versions.{Numbers, version_of, bumped, known}
use Rattle.wse_path.specs.declared.command.Choice.{Choice}
use Rattle.wse_path.specs.declared.command.Choice.TheVariants.{All}
use Rattle.wse_path.specs.declared.command.Direction.TheVariants.{Back, Forward}
use Rattle.wse_path.specs.Tree.{Entries, content, is_present, set_files, IsTree}
use Rattle.wse_path.proofs.EntryLemmas.{and_parts, less_so, to_so}
use Rattle.wse_path.proofs.PathOrder.{same_path, total}
use Rattle.wse_path.proofs.PutLemmas.{sorted_put}
use Rattle.wse_locks.specs.Locks.{Holders, is_held}
use Rattle.wse_element.specs.declared.effect.Effect.{Effect}
use Rattle.wse_element.specs.declared.effect.Effect.TheVariants.{MoveBack, MoveForward, Bump}
use Rattle.wse_element.specs.Content.{Content, new_content}
use Rattle.wse_element.specs.Record.{RecordPart, Record, by_path, AreParts}
use Rattle.wse_element.specs.Live.{is_live, is_live_part_at, live_part, is_live_at}
use Rattle.wse_element.specs.Linked.{are_different}
use Rattle.wse_element.specs.Stacks.{has_id, ids, record_of}
use Rattle.wse_element.specs.State.{StacksState, State, stacks_of, kept_of}
use Rattle.wse_element.specs.Effects.{after, after_each, contents_set, marked, old_contents, new_contents, versions_after_each, state_after}
use Rattle.wse_element.specs.Applicable.{is_closest, sets_tree}
use Rattle.wse_element.proofs.AfterLemmas.{closest_there}
use Rattle.wse_element.proofs.CloseLemmas.{In}
use Rattle.wse_element.proofs.FoldLemmas.{after_behind, versions_behind, serial_stays}
use Rattle.wse_element.proofs.ListLemmas.{find_passes, list_all_weaker}
use Rattle.wse_element.proofs.MoveLemmas.{with_done}
use Rattle.wse_element.proofs.PushLemmas.{found_in}
use Rattle.wse_element.proofs.TreeLemmas.{parts_of_found}
use Rattle.wse_apply.specs.Limit.{hit_by, hit_above, limit_hit}
use Rattle.wse_rules.specs.Ruling.{all_paths, closest, one_ruling, across_ruling, ruling_of, ruling, blocked, removed, changed, locked, invalid}
use Rattle.wse_rules.specs.declared.ruling.Cause.TheVariants as causes
use Rattle.wse_rules.specs.declared.ruling.Ruling.TheVariants as rulings
use Rattle.wse_history.specs.declared.answer.SplitNote.{SplitNote}
use Rattle.wse_history.specs.declared.answer.MoveEnd.TheVariants as ends
use Rattle.wse_history.specs.declared.answer.Answer.TheVariants.{Move}
use Rattle.wse_history.specs.History.{IsHistory}
use Rattle.wse_history.specs.Limits.{serial_hit, known_hit, hit_of, within_limits}
use Rattle.wse_history.specs.Moves.{begun_course, move_outcome}
use Rattle.wse_history.specs.Outcome.{Outcome, stays, records, is_some_of, numbered, bump_each}
use Rattle.wse_history.specs.Step.{recorded, with_locks, left, step}
use Rattle.wse_history.proofs.GoneLemmas.{gone_whole}
use Rattle.wse_history.proofs.MoveLemmas.{move_is}
use Rattle.wse_history.proofs.ShapeLemmas.{now}
use Rattle.wse_history.proofs.GoLemmas.{closest_stands, found_itself}
use Rattle.wse_history.proofs.KnownLemmas.{counted, come, counted_put}
use Rattle.wse_history.proofs.Words.{AreLinked, are_distinct}
use Rattle.wse_element.specs.Linked.{IsTreeLinkedAt}
use Rattle.wse_element.specs.Way.{comes, is_set, is_between, in_the_way}
use Rattle.wse_element.proofs.LiveLemmas.{eq_itself}
use Rattle.wse_history.proofs.FlushLemmas.{unequal_back, parts_distinct}
use Rattle.wse_lives.proofs.GoLemmas.{MayGoBack, finds, others, redo_gives_back}
use Rattle.wse_lives.proofs.RedoLemmas.{redo_closest, redo_gives_records}
use Rattle.wse_lives.specs.Laws.{GivesAgain, RedoNext}
use Rattle.wse_lives.specs.Returns.{moved_among}
use Rattle.wse_lives.proofs.BackLemmas.{Moving, first_moving, some_behind, files_bumps, moved_files}
use Rattle.wse_lives.proofs.OverLemmas.{sets_contents}
use Rattle.wse_lives.proofs.StepLemmas.{commands_keep, recorded_is}
use Rattle.wse_lives.proofs.ReturnLemmas.{MayGo, may_go_is, valid_there}

-- ---- parts of a record that is whole

-- each part is found at its path
find_more : (x : RecordPart) (more ys : List RecordPart) → below_all path_cmp x.path (by_path ys) ≡ true → AllByRecursion (λ y. find_part (is_live_part_at y.path) more ≡ Some y) ys → AllByRecursion (λ y. find_part (is_live_part_at y.path) (x ∷ more) ≡ Some y) ys
find_more x more [] below all = tt
find_more x more (y ∷ ys) below all =
    let both = and_parts (is_lt (path_cmp x.path y.path)) (below_all path_cmp x.path (by_path ys)) below in
    let other : eq_by_cmp path_cmp y.path x.path ≡ false = unequal_back x.path y.path (ap is_eq (less_so (path_cmp x.path y.path) both.0)) in
    (ap (λ b. cond (b && is_live x.state) (Some x) (find_part (is_live_part_at y.path) more)) other ∙ all.0, find_more x more ys both.1 all.1)

pub find_self : (parts : List RecordPart) → is_sorted path_cmp (by_path parts) ≡ true → list_all (λ part. is_live part.state && part.valid) parts ≡ true → AllByRecursion (λ y. find_part (is_live_part_at y.path) parts ≡ Some y) parts
find_self [] sorted whole = tt
find_self (x ∷ more) sorted whole =
    let s = and_parts (below_all path_cmp x.path (by_path more)) (is_sorted path_cmp (by_path more)) sorted in
    let w = and_parts (is_live x.state && x.valid) (list_all (λ part. is_live part.state && part.valid) more) whole in
    let live = (and_parts (is_live x.state) x.valid w.0).0 in
    ((λ i. cond (eq_itself x.path i && live i) (Some x) (find_part (is_live_part_at x.path) more)), find_more x more more s.0 (find_self more s.1 w.1))

-- a path is that of a live part where it is that of a part
pub live_among : (p : Path) (parts : List RecordPart) → list_all (λ part. is_live part.state && part.valid) parts ≡ true → list_any (λ part. eq_by_cmp path_cmp p part.path) parts ≡ is_some (find_part (is_live_part_at p) parts)
live_among p [] whole = refl
live_among p (x ∷ more) whole =
    let w = and_parts (is_live x.state && x.valid) (list_all (λ part. is_live part.state && part.valid) more) whole in
    let live = (and_parts (is_live x.state) x.valid w.0).0 in
    elim (eq_by_cmp path_cmp p x.path) as (λ b. (b || list_any (λ part. eq_by_cmp path_cmp p part.path) more) ≡ is_some (cond (b && is_live x.state) (Some x) (find_part (is_live_part_at p) more))) [
      | true ↦ ap (λ b. is_some (cond b (Some x) (find_part (is_live_part_at p) more))) (sym live)
      | false ↦ live_among p more w.1
    ]

-- ---- nothing is in the way

none_listed : (test : Path → Bool) (files es : Entries) → ((p : Path) → is_present files p ≡ true → test p ≡ false) → list_all (λ e. is_present files e.0) es ≡ true → filter test (map (λ e. e.0) es) ≡ []
none_listed test files [] none all = refl
none_listed test files (e ∷ es) none all =
    let both = and_parts (is_present files e.0) (list_all (λ x. is_present files x.0) es) all in
    ap (λ b. cond b (e.0 ∷ filter test (map (λ x. x.0) es)) (filter test (map (λ x. x.0) es))) (none e.0 both.0) ∙ none_listed test files es none both.1

present_more : (files : Entries) (e : Path × List ℕ) (es : Entries) → list_all (λ x. is_present files x.0) es ≡ true → list_all (λ x. is_present (e ∷ files) x.0) es ≡ true
present_more files e [] all = refl
present_more files e (x ∷ es) all =
    let both = and_parts (is_present files x.0) (list_all (λ y. is_present files y.0) es) all in
    elim (eq_by_cmp path_cmp x.0 e.0) as (λ b. (is_some (cond b (Some e.1) (content files x.0)) && list_all (λ y. is_present (e ∷ files) y.0) es) ≡ true) [
      | true ↦ present_more files e es both.1
      | false ↦ (λ i. both.0 i && present_more files e es both.1 i)
    ]

all_present : (files : Entries) → list_all (λ e. is_present files e.0) files ≡ true
all_present [] = refl
all_present (e ∷ files) = λ i. is_some (cond (eq_itself e.0 i) (Some e.1) (content files e.0)) && present_more files e files (all_present files) i

no_and : (b : Bool) → (b && false) ≡ false
no_and true = refl
no_and false = refl

module _ (s : Entries) (records : List Record) (r : Record) (may : MayGoBack records r) (linked : (p : Path) → IsTreeLinkedAt s records p) (tree : IsTree s) where
  abbrev undone : Entries
  undone = set_files (old_contents r) s

  -- a path outside that is there after the undo was there before
  stays_present : (p : Path) → is_live_at p r ≡ false → is_present undone p ≡ true → is_present s p ≡ true
  stays_present p none there = ap is_some (sym (others s records r may p none)) ∙ there

  between_none : (p : Path) → is_present s p ≡ true → (parts : List RecordPart) → AllByRecursion (λ part. live_part part.path r ≡ Some part) parts
      → list_any (λ c. comes c && (is_under p c.0 || is_under c.0 p)) (map {B = Path × Content} (λ part. (part.path, new_content part.body)) parts) ≡ false
  between_none p there [] all = refl
  between_none p there (part ∷ more) all =
      let rest = between_none p there more all.1 in
      let was = finds s records r may part.path (linked part.path) (ap is_some all.0) ∙ ap (λ (o : Option RecordPart). option_and_then (λ (x : RecordPart). new_content x.body) o) all.0 in
      or_from (is_some (new_content part.body) && (is_under p part.path || is_under part.path p)) (list_any (λ c. comes c && (is_under p c.0 || is_under c.0 p)) (map {B = Path × Content} (λ (x : RecordPart). (x.path, new_content x.body)) more))
      (elim (new_content part.body) as (λ o. content s part.path ≡ o → (is_some o && (is_under p part.path || is_under part.path p)) ≡ false) [
        | None ↦ λ e. refl
        | Some bytes ↦ λ e. let at : is_present s part.path ≡ true = ap is_some e in (λ i. tree.apart p part.path there at i || tree.apart part.path p at there i)
      ] was)
      rest

  set_is : (p : Path) (parts : List RecordPart) → is_set (map {B = Path × Content} (λ part. (part.path, new_content part.body)) parts) p ≡ list_any (λ part. eq_by_cmp path_cmp p part.path) parts
  set_is p [] = refl
  set_is p (part ∷ more) = ap (λ b. eq_by_cmp path_cmp p part.path || b) (set_is p more)

  tested : (p : Path) → is_present undone p ≡ true → (not (is_set (new_contents r) p) && is_between (new_contents r) p) ≡ false
  tested p there =
      elim (is_live_at p r) as (λ b. is_live_at p r ≡ b → (not (is_set (new_contents r) p) && is_between (new_contents r) p) ≡ false) [
        | true ↦ λ e. ap (λ b. not b && is_between (new_contents r) p) (set_is p r.parts ∙ live_among p r.parts may.whole ∙ e)
        | false ↦ λ e. ap (λ b. not (is_set (new_contents r) p) && b) (between_none p (stays_present p e there) r.parts (find_self r.parts may.parts.rise may.whole)) ∙ no_and (not (is_set (new_contents r) p))
      ] refl

  pub free_way : in_the_way undone (new_contents r) ≡ []
  free_way = none_listed (λ p. not (is_set (new_contents r) p) && is_between (new_contents r) p) undone undone tested (all_present undone)

-- ---- the redo is ruled to go

none_pass : (test : RecordPart → Bool) (parts : List RecordPart) → list_all (λ part. not (test part)) parts ≡ true → map (λ part. part.path) (filter test parts) ≡ []
none_pass test [] all = refl
none_pass test (part ∷ more) all =
    let both = and_parts (not (test part)) (list_all (λ x. not (test x)) more) all in
    ap (λ b. map (λ x. x.path) (cond b (part ∷ filter test more) (filter test more))) (not-true (test part) both.0) ∙ none_pass test more both.1

found_marked : (records : List Record) (id : ℕ) (done : Bool) → record_of (marked records id done) id ≡ option_map (λ r. with_done r done) (record_of records id)
found_marked [] id done = refl
found_marked (x ∷ records) id done =
    elim (has_id id x) as (λ b. has_id id x ≡ b → find_part (has_id id) (cond b (with_done x done) x ∷ marked records id done) ≡ option_map (λ r. with_done r done) (cond b (Some x) (record_of records id))) [
      | true ↦ λ e. ap (λ b. cond b (Some (with_done x done)) (record_of (marked records id done) id)) e
      | false ↦ λ e. ap (λ b. cond b (Some x) (record_of (marked records id done) id)) e ∙ found_marked records id done
    ] refl

module _ (h : StacksState) (r : Record) (all : AreLinked h) (found : record_of h.records r.id ≡ Some r) (may : MayGo Back h.records r) where
  abbrev again : Record
  again = with_done r false

  abbrev marks : List Record
  marks = marked h.records r.id false

  abbrev back : MayGoBack h.records r
  back = record { parts = may.parts; whole = may.whole; closest = may.closest_at }

  closest_again : (p : Path) → is_live_at p r ≡ true → closest Forward marks p ≡ Some again
  closest_again p live = redo_closest h.next_id h.records r all.linked back p live

  -- a part's path is one at which the record is live
  live_by : (p : Path) → is_closest r.id (closest Back h.records p) ≡ true → is_live_at p r ≡ true
  live_by p is =
      let there = closest_there (closest Back h.records p) r.id is in
      let stands = closest_stands Back h.records p there.closest there.is in
      let itself = found_itself h.records there.closest all.linked.different stands.among in
      let same : there.closest ≡ r = same_Some there.closest r (sym itself ∙ ap (record_of h.records) there.same ∙ found) in
      subst (λ (x : Record). is_live_at p x ≡ true) same stands.live

  module _ (locks : Holders) (by : ℕ) (free : (p : Path) → is_live_at p r ≡ true → is_held locks by p ≡ false) (at : Path) (choice : Choice) (live : is_live_at at r ≡ true) where
    none_removed : removed again ≡ []
    none_removed = none_pass (λ part. not (is_live part.state)) r.parts
        (list_all_weaker (λ part. is_live part.state && part.valid) (λ part. not (not (is_live part.state))) (λ part h. ap (λ b. not (not b)) (and_parts (is_live part.state) part.valid h).0) r.parts may.whole)

    none_changed : changed Forward marks again ≡ []
    none_changed = none_pass (λ part. is_live part.state && not (is_closest r.id (closest Forward marks part.path))) r.parts
        (list_all_weaker (λ part. is_closest r.id (closest Back h.records part.path)) (λ part. not (is_live part.state && not (is_closest r.id (closest Forward marks part.path))))
        (λ part is. ap (λ b. not (is_live part.state && not b)) (ap (is_closest r.id) (closest_again part.path (live_by part.path is)) ∙ eq-eqb r.id r.id refl) ∙ ap not (no_and (is_live part.state))) r.parts may.closes)

    none_locked : locked locks by again ≡ []
    none_locked = none_pass (λ part. is_live part.state && is_held locks by part.path) r.parts
        (list_all_weaker (λ part. is_closest r.id (closest Back h.records part.path)) (λ part. not (is_live part.state && is_held locks by part.path))
        (λ part is. ap (λ b. not (is_live part.state && b)) (free part.path (live_by part.path is)) ∙ ap not (no_and (is_live part.state))) r.parts may.closes)

    none_invalid : invalid again ≡ []
    none_invalid = none_pass (λ part. is_live part.state && not part.valid) r.parts
        (list_all_weaker (λ part. is_live part.state && part.valid) (λ part. not (is_live part.state && not part.valid))
        (λ part h. let b = and_parts (is_live part.state) part.valid h in (λ i. not (b.0 i && not (b.1 i)))) r.parts may.whole)

    none_blocked : blocked Forward marks locks by again ≡ None
    none_blocked = λ i. find_part (λ b. nat_lt 0 (length b.files))
        (record { cause = causes.Removed; files = none_removed i } ∷ record { cause = causes.Changed; files = none_changed i }
        ∷ record { cause = causes.Locked; files = none_locked i } ∷ record { cause = causes.Invalid; files = none_invalid i } ∷ [])

    ruled : ruling_of Forward marks locks by at choice again ≡ rulings.Go r.id
    ruled = elim (nat_le 2 (length r.parts)) as (λ b. cond b (across_ruling (blocked Forward marks locks by again) All again) (one_ruling locks by at again) ≡ rulings.Go r.id) [
      | true ↦ ap (λ o. across_ruling o All again) none_blocked ∙ elim r.splits as (λ b. cond b (rulings.Go r.id) (rulings.Go r.id) ≡ rulings.Go r.id) [ true ↦ refl | false ↦ refl ]
      | false ↦ λ i. cond (not (valid_there at r may.whole (found_in at r live) i)) (rulings.Flush causes.Invalid (at ∷ []) (at ∷ [])) (cond (free at live i) (rulings.Locked (at ∷ [])) (rulings.Go r.id))
    ]

    pub goes_again : ruling Forward marks locks by at choice ≡ rulings.Go r.id
    goes_again = ap (λ o. option_map_or (ruling_of Forward marks locks by at choice) o rulings.Nothing) (closest_again at live) ∙ ruled

-- ---- versions

abbrev among : Path → List Path → Bool
among p ps = list_any (λ q. eq_by_cmp path_cmp p q) ps

version_put : (vs : Numbers) (p q : Path) (n : ℕ) → version_of (put path_cmp q n vs) p ≡ cond (eq_by_cmp path_cmp p q) n (version_of vs p)
version_put vs p q n =
    ap (λ o. unwrap_or o 0) (find-put path_cmp total p q n vs)
    ∙ elim (eq_by_cmp path_cmp p q) as (λ b. unwrap_or (cond b (Some n) (find_key path_cmp p vs)) 0 ≡ cond b n (version_of vs p)) [ true ↦ refl | false ↦ refl ]

plus_zero : (n : ℕ) → n ≡ n + 0
plus_zero n = omega arith

-- each of distinct paths is raised by one
raised_each : (vs : Numbers) (ps : List Path) (p : Path) → are_distinct ps ≡ true → version_of (versions_after_each vs (bump_each ps)) p ≡ version_of vs p + cond (among p ps) 1 0
raised_each vs [] p distinct = plus_zero (version_of vs p)
raised_each vs (q ∷ ps) p distinct =
    let d = and_parts (not (list_any (λ x. eq_by_cmp path_cmp x q) ps)) (are_distinct ps) distinct in
    let once = not-true (list_any (λ x. eq_by_cmp path_cmp x q) ps) d.0 in
    raised_each (bumped vs q 1) ps p d.1
    ∙ ap (λ n. n + cond (among p ps) 1 0) (version_put vs p q (version_of vs q + 1))
    ∙ elim (eq_by_cmp path_cmp p q) as (λ b. eq_by_cmp path_cmp p q ≡ b → cond b (version_of vs q + 1) (version_of vs p) + cond (among p ps) 1 0 ≡ version_of vs p + cond (b || among p ps) 1 0) [
      | true ↦ λ e.
          let none : among p ps ≡ false = ap (λ (x : Path). among x ps) (same_path p q e) ∙ none_back q ps once in
          ap (λ b. version_of vs q + 1 + cond b 1 0) none ∙ sym (plus_zero (version_of vs q + 1)) ∙ ap (λ (x : Path). version_of vs x + 1) (sym (same_path p q e))
      | false ↦ λ e. refl
    ] refl
  where
    none_back : (q : Path) (ps : List Path) → list_any (λ x. eq_by_cmp path_cmp x q) ps ≡ false → among q ps ≡ false
    none_back q [] h = refl
    none_back q (x ∷ ps) h =
        let o = or_parts (eq_by_cmp path_cmp x q) (list_any (λ y. eq_by_cmp path_cmp y q) ps) h in
        or_from (eq_by_cmp path_cmp q x) (among q ps) (unequal_back x q o.0) (none_back q ps o.1)

come_none : (o : Option ℕ) (p : Path) → is_some o ≡ true → come o p ≡ 0
come_none None p h = cc
come_none (Some n) p h = refl

-- paths that are known already count for nothing more
known_each : (vs : Numbers) (ps : List Path) → is_sorted path_cmp vs ≡ true → list_all (λ p. is_some (find_key path_cmp p vs)) ps ≡ true → known (versions_after_each vs (bump_each ps)) ≡ known vs
known_each vs [] sorted all = refl
known_each vs (p ∷ ps) sorted all =
    let both = and_parts (is_some (find_key path_cmp p vs)) (list_all (λ q. is_some (find_key path_cmp q vs)) ps) all in
    let n = version_of vs p + 1 in
    known_each (bumped vs p 1) ps (sorted_put p n vs sorted) (still_all ps both.1)
    ∙ ap (λ c. min c (2 ^ 64 - 1)) (counted_put p n vs sorted ∙ ap (λ c. counted vs + c) (come_none (find_key path_cmp p vs) p both.0) ∙ sym (plus_zero (counted vs)))
  where
    still_all : (qs : List Path) → list_all (λ q. is_some (find_key path_cmp q vs)) qs ≡ true → list_all (λ q. is_some (find_key path_cmp q (bumped vs p 1))) qs ≡ true
    still_all qs h = list_all_weaker (λ q. is_some (find_key path_cmp q vs)) (λ q. is_some (find_key path_cmp q (bumped vs p 1)))
        (λ q there. ap is_some (find-put path_cmp total q p (version_of vs p + 1) vs) ∙ elim (eq_by_cmp path_cmp q p) as (λ b. is_some (cond b (Some (version_of vs p + 1)) (find_key path_cmp q vs)) ≡ true) [ true ↦ refl | false ↦ there ]) qs h

-- ---- lists of effects

any_behind : (xs : List Effect) (y : Effect) (ys : List Effect) → sets_tree y ≡ true → list_any sets_tree (xs ++ y ∷ ys) ≡ true
any_behind [] y ys h = ap (λ b. b || list_any sets_tree ys) h
any_behind (x ∷ xs) y ys h = elim (sets_tree x) as (λ b. (b || list_any sets_tree (xs ++ y ∷ ys)) ≡ true) [ true ↦ refl | false ↦ any_behind xs y ys h ]

or_none : (a b : Option Hit) → option_or a b ≡ None → (a ≡ None) × (b ≡ None)
or_none None b h = (refl, h)
or_none (Some x) b h = cc

both_none : (a b c : Option Hit) → a ≡ None → b ≡ None → c ≡ None → option_or a (option_or b c) ≡ None
both_none a b c e f g = λ i. option_or (e i) (option_or (f i) (g i))

records_bumps : (h : StacksState) (ps : List Path) → (after_each h (bump_each ps)).records ≡ h.records
records_bumps h [] = refl
records_bumps h (p ∷ ps) = records_bumps (after h (Bump p 1)) ps

none_above : (which : Which) (limit n : ℕ) → n ≤ limit → hit_above which limit n ≡ None
none_above which limit n low = ap (λ b. cond b (Some (hit_by which n)) None) (le-ltb limit n low)

-- ---- a list has its own paths

among_more : (q : Path) (ps qs : List Path) → list_all (λ p. among p ps) qs ≡ true → list_all (λ p. among p (q ∷ ps)) qs ≡ true
among_more q ps [] all = refl
among_more q ps (p ∷ qs) all =
    let both = and_parts (among p ps) (list_all (λ x. among x ps) qs) all in
    elim (eq_by_cmp path_cmp p q) as (λ b. ((b || among p ps) && list_all (λ x. among x (q ∷ ps)) qs) ≡ true) [
      | true ↦ among_more q ps qs both.1
      | false ↦ λ i. both.0 i && among_more q ps qs both.1 i
    ]

among_self : (ps : List Path) → list_all (λ p. among p ps) ps ≡ true
among_self [] = refl
among_self (p ∷ ps) = λ i. (eq_itself p i || among p ps) && among_more p ps ps (among_self ps) i

among_map : (p : Path) (parts : List RecordPart) → among p (map (λ part. part.path) parts) ≡ list_any (λ part. eq_by_cmp path_cmp p part.path) parts
among_map p [] = refl
among_map p (part ∷ more) = ap (λ b. eq_by_cmp path_cmp p part.path || b) (among_map p more)

some_version : (versions : Numbers) (p : Path) (n : ℕ) → version_of versions p ≡ n + 1 → is_some (find_key path_cmp p versions) ≡ true
some_version versions p n h =
    elim (find_key path_cmp p versions) as (λ o. unwrap_or o 0 ≡ n + 1 → is_some o ≡ true) [
      | None ↦ λ e. absurd (omega (arith, e))
      | Some k ↦ λ e. refl
    ] h

-- ---- the only record with the id is done

all_in : (P : Record → Type 0) (records : List Record) → ((q : Record) → In q records → P q) → AllByRecursion P records
all_in P [] f = tt
all_in P (x ∷ records) f = (f x (inl refl), all_in P records (λ q there. f q (inr there)))

only_done : (records : List Record) (r : Record) → are_different (ids records) ≡ true → record_of records r.id ≡ Some r → r.done ≡ true → AllByRecursion (λ q. has_id r.id q ≡ true → q.done ≡ true) records
only_done records r different found done =
    all_in (λ q. has_id r.id q ≡ true → q.done ≡ true) records
    (λ q there is.
    let itself = found_itself records q different there in
    let same : q ≡ r = same_Some q r (sym itself ∙ ap (record_of records) (eqb-true q.id r.id is) ∙ found) in
    ap (λ (x : Record). x.done) same ∙ done)

-- ---- equal trees

same_trees : (a b : Entries) → is_sorted path_cmp a ≡ true → is_sorted path_cmp b ≡ true → ((p : Path) → content a p ≡ content b p) → a ≡ b
same_trees a b s t same = same_entries path_cmp (lists_total nat_list_cmp_total) (λ x y e. same_path x y (ap is_eq e)) a b (to_so _ s) (to_so _ t) same

two_more : (n : ℕ) → n + 1 + 1 ≡ n + 2
two_more n = omega arith

none_more : (n : ℕ) → n + 0 + 0 ≡ n
none_more n = omega arith

next_low : (a b limit : ℕ) → a ≡ b + 1 → b < limit → a ≤ limit
next_low a b limit e h = omega (arith, e, h)

module _ (limits : Limits) (s : State) (set : IsHistory s limits) (by : ℕ) (path : Path) (choice : Choice) (note : Option SplitNote) (versions : List Numbered) (r : Record)
    (done : (move_outcome limits s by Back path choice).answer ≡ Move note (ends.Done r.id versions)) (found : record_of (moved_among s note) r.id ≡ Some r) where
  abbrev o : Outcome
  o = move_outcome limits s by Back path choice

  pub m : Moving limits s Back note r.id o
  m = first_moving limits s by Back path choice note r.id versions set (ruling Back s.records s.locks by path choice) refl done

  pub found_h : record_of m.h.records r.id ≡ Some r
  found_h = ap (λ rs. record_of rs r.id) m.among ∙ found

  parts : AreParts r.parts
  parts = parts_of_found m.h.records r.id r m.linked.parts found_h

  pub may : MayGo Back m.h.records r
  may = may_go_is Back m.h r.id r m.linked parts found_h m.may

  pub undo : MayGoBack m.h.records r
  undo = record { parts = parts; whole = may.whole; closest = may.closest_at }

  abbrev effects : List Effect
  effects = m.before ++ (MoveBack r.id ∷ bump_each m.paths)

  abbrev x : State
  x = state_after s effects

  pub next_is : step limits s (commands.Move by Back path choice) ≡ x
  next_is =
      ap (λ l. with_locks l (recorded s o.effects)) m.locks
      ∙ ap (recorded s) m.effects
      ∙ recorded_is s effects (some_behind m.before (MoveBack r.id) (bump_each m.paths))

  paths_are : m.paths ≡ all_paths r
  paths_are = m.named ∙ ap (λ (q : Option Record). option_map_or all_paths q []) found_h

  pub x_records : x.records ≡ marked m.h.records r.id false
  x_records =
      ap (λ (k : StacksState). k.records) (after_behind (now s) m.before (MoveBack r.id ∷ bump_each m.paths))
      ∙ ap (λ k. (after_each k (MoveBack r.id ∷ bump_each m.paths)).records) m.here
      ∙ records_bumps (after m.h (MoveBack r.id)) m.paths

  pub x_files : x.files ≡ set_files (old_contents r) s.files
  x_files =
      ap (λ (y : State). y.files) (sym next_is)
      ∙ moved_files limits s Back note r.id o m
      ∙ ap (λ cs. set_files cs s.files) (sets_contents Back m.h.records r.id r found_h)

  x_versions : x.versions ≡ versions_after_each s.versions (bump_each (all_paths r))
  x_versions =
      versions_behind s.versions m.before (MoveBack r.id ∷ bump_each m.paths)
      ∙ ap (λ vs. versions_after_each vs (bump_each m.paths)) (m.versions_still s.versions)
      ∙ ap (λ ps. versions_after_each s.versions (bump_each ps)) paths_are

  pub found_x : record_of x.records r.id ≡ Some (with_done r false)
  found_x = ap (λ rs. record_of rs r.id) x_records ∙ found_marked m.h.records r.id false ∙ ap (option_map (λ q. with_done q false)) found_h

  -- a redo of it leaves the tree that the undo found
  pub tree_again : set_files (new_contents r) (set_files (old_contents r) s.files) ≡ s.files
  tree_again =
      let both : Entries = set_files (new_contents r) (set_files (old_contents r) s.files) in
      same_trees both s.files (sorted_set_files (new_contents r) (set_files (old_contents r) s.files) (sorted_set_files (old_contents r) s.files set.linked.tree.rises)) set.linked.tree.rises
      (λ p. redo_gives_back s.files m.h.records r undo p (m.tree p))

  x_known : known_hit limits x ≡ None
  x_known =
      let both = or_none (serial_hit limits x) (cond (list_any sets_tree effects) (option_or (known_hit limits x) (limit_hit limits x.files)) None) m.fits in
      let rest = ap (λ b. cond b (option_or (known_hit limits x) (limit_hit limits x.files)) None) (sym (any_behind m.before (MoveBack r.id) (bump_each m.paths) refl)) ∙ both.1 in
      (or_none (known_hit limits x) (limit_hit limits x.files) rest).0

  x_sorted : is_sorted path_cmp x.versions ≡ true
  x_sorted = ap (λ (y : State). is_sorted path_cmp y.versions) (sym next_is) ∙ (commands_keep limits s (commands.Move by Back path choice) set).0.linked.kept.rise

  distinct : are_distinct (all_paths r) ≡ true
  distinct = parts_distinct r.parts parts.rise

  x_there : list_all (λ p. is_some (find_key path_cmp p x.versions)) (all_paths r) ≡ true
  x_there = list_all_weaker (λ p. among p (all_paths r)) (λ p. is_some (find_key path_cmp p x.versions))
      (λ p is. some_version x.versions p (version_of s.versions p) (ap (λ vs. version_of vs p) x_versions ∙ raised_each s.versions (all_paths r) p distinct ∙ ap (λ b. version_of s.versions p + cond b 1 0) is)) (all_paths r) (among_self (all_paths r))

  module _ (again_by : ℕ) (at : Path) (again_choice : Choice) (live : is_live_at at r ≡ true) (free : (p : Path) → is_live_at p r ≡ true → is_held x.locks again_by p ≡ false) (low : x.serial < limits.serial) where
    rule : ruling Forward x.records x.locks again_by at again_choice ≡ rulings.Go r.id
    rule = ap (λ rs. ruling Forward rs x.locks again_by at again_choice) x_records ∙ goes_again m.h r m.linked found_h may x.locks again_by free at again_choice live

    abbrev redone : List Effect
    redone = MoveForward r.id ∷ bump_each (all_paths r)

    abbrev y : State
    y = state_after x redone

    abbrev asked : ℕ
    asked = (begun_course x Forward at).asked

    y_files : y.files ≡ s.files
    y_files =
        let sets = sets_contents Forward x.records r.id (with_done r false) found_x in
        files_bumps (after (stacks_of (kept_of x)) (MoveForward r.id)) (all_paths r) (set_files (contents_set x.records (MoveForward r.id)) x.files)
        ∙ (λ i. set_files (sets i) (x_files i))
        ∙ tree_again

    y_records : y.records ≡ moved_among s note
    y_records =
        records_bumps (after (now x) (MoveForward r.id)) (all_paths r)
        ∙ ap (λ rs. marked rs r.id true) x_records
        ∙ redo_gives_records r.id m.h.records (only_done m.h.records r m.linked.linked.different found_h may.stands)
        ∙ m.among

    y_known : known y.versions ≡ known x.versions
    y_known = known_each x.versions (all_paths r) x_sorted x_there

    y_fits : hit_of limits redone y ≡ None
    y_fits =
        both_none (serial_hit limits y) (known_hit limits y) (limit_hit limits y.files)
        (none_above Serial limits.serial y.serial (next_low y.serial x.serial limits.serial (serial_stays (now x) redone) low))
        (ap (hit_above Known limits.known) y_known ∙ x_known)
        (ap (limit_hit limits) y_files ∙ set.fits)

    way : in_the_way x.files (new_contents r) ≡ []
    way = ap (λ fs. in_the_way fs (new_contents r)) x_files ∙ free_way s.files m.h.records r undo m.tree set.linked.tree

    abbrev answered : Outcome
    answered = records redone (Move None (ends.Done r.id (numbered y (all_paths r))))

    again_is : move_outcome limits x again_by Forward at again_choice ≡ answered
    again_is =
        sym (move_is limits x again_by Forward at again_choice (rulings.Go r.id) rule)
        ∙ sym (gone_whole limits x Forward asked r.id (with_done r false) found_x)
        ∙ ap (λ (w : List Path). cond (is_some_of w) (stays (Move None (ends.InTheWay asked w)))
        (within_limits limits x redone (λ hit. Move None (ends.Limit asked hit)) (λ next. Move None (ends.Done r.id (numbered next (all_paths r)))))) way
        ∙ ap (λ (hit : Option Hit). option_map_or (λ h. stays (Move None (ends.Limit asked h))) hit answered) y_fits

    step_is : step limits x (commands.Move again_by Forward at again_choice) ≡ y
    step_is = ap (left x) again_is

    raised_by : (p : Path) (b : Bool) → is_live_at p r ≡ b → version_of y.versions p ≡ version_of s.versions p + cond b 1 0 + cond b 1 0
    raised_by p b is =
        let here : among p (all_paths r) ≡ b = among_map p r.parts ∙ live_among p r.parts may.whole ∙ is in
        raised_each x.versions (all_paths r) p distinct
        ∙ (λ i. version_of (x_versions i) p + cond (here i) 1 0)
        ∙ ap (λ n. n + cond b 1 0) (raised_each s.versions (all_paths r) p distinct ∙ ap (λ c. version_of s.versions p + cond c 1 0) here)

    pub gives : GivesAgain limits s x again_by at again_choice (moved_among s note) r
    gives = record {
      answer = ap (λ (q : Outcome). q.answer) again_is ∙ ap (λ (z : State). Move None (ends.Done r.id (numbered z (all_paths r)))) (sym step_is);
      files = ap (λ (z : State). z.files) step_is ∙ y_files;
      records = ap (λ (z : State). z.records) step_is ∙ y_records;
      raised = λ p is. ap (λ (z : State). version_of z.versions p) step_is ∙ raised_by p true is ∙ two_more (version_of s.versions p);
      kept = λ p is. ap (λ (z : State). version_of z.versions p) step_is ∙ raised_by p false is ∙ none_more (version_of s.versions p);
    }

pub redo_next : RedoNext
redo_next limits s set by path choice note id versions done r found again_by at again_choice live free low =
    let same : r.id ≡ id = eqb-true r.id id (find_passes (has_id id) (moved_among s note) r found) in
    let told = subst (λ n. (move_outcome limits s by Back path choice).answer ≡ Move note (ends.Done n versions)) (sym same) done in
    let there = subst (λ n. record_of (moved_among s note) n ≡ Some r) (sym same) found in
    let is = next_is limits s set by path choice note versions r told there in
    subst (λ (z : State). GivesAgain limits s z again_by at again_choice (moved_among s note) r) (sym is)
    (gives limits s set by path choice note versions r told there again_by at again_choice live
    (λ p on. ap (λ (z : State). is_held z.locks again_by p) (sym is) ∙ free p on) (subst (λ (z : State). z.serial < limits.serial) is low))
