-- An undo or a redo over a life gives back what was there.
use Rattle.std.proofs.Common.{◌≡◌, ◌≢◌, ℕ, ◌+◌, ◌≤◌, true, List, [], ◌∷◌, ◌++◌, Option, Some, None, refl, sym, ap, subst, ◌∙◌, arith}
use Rattle.std.specs.List.{list_all, AllByRecursion}
use Rattle.std.specs.Option.{option_map_or}
use Rattle.std.proofs.lemmas.Bool.{eqb-true}
use Rattle.wse_path.specs.Path.{Path}
use Rattle.wse_path.specs.Tree.{Entries, set_files}
use Rattle.wse_path.specs.Versions.{Numbers}
use Rattle.wse_path.specs.declared.change.Numbered.{Numbered}
use Rattle.wse_path.specs.declared.command.Choice.{Choice}
use Rattle.wse_path.specs.declared.command.Direction.{Direction}
use Rattle.wse_path.specs.declared.limits.Limits.{Limits}
use Rattle.wse_element.specs.declared.effect.Effect.{Effect}
use Rattle.wse_element.specs.declared.effect.Effect.TheVariants.{Split, Bump}
use Rattle.wse_element.specs.Record.{Record}
use Rattle.wse_element.specs.Stacks.{has_id, record_of, live_at}
use Rattle.wse_element.specs.State.{StacksState, State, stacks_of, kept_of}
use Rattle.wse_element.specs.Effects.{after, after_each, contents_set, files_after_each, versions_after_each, state_after}
use Rattle.wse_element.specs.Applicable.{may_come}
use Rattle.wse_element.specs.Linked.{is_numbered, IsTreeLinkedAt}
use Rattle.wse_element.proofs.FoldLemmas.{files_begun}
use Rattle.wse_element.proofs.ListLemmas.{find_passes}
use Rattle.wse_element.proofs.TreeLemmas.{tree_after, parts_of_found}
use Rattle.wse_rules.specs.Ruling.{all_paths, closest, one_ruling, ruling}
use Rattle.wse_rules.specs.declared.ruling.Cause.{Cause}
use Rattle.wse_rules.specs.declared.ruling.Ruling.{Ruling}
use Rattle.wse_rules.specs.declared.ruling.Ruling.TheVariants as rulings
use Rattle.wse_history.specs.declared.answer.SplitNote.{SplitNote}
use Rattle.wse_history.specs.History.{IsHistory}
use Rattle.wse_history.specs.Moves.{Course, move_effect, ruled, begun_course, first_ruled, move_outcome}
use Rattle.wse_history.specs.Limits.{hit_of}
use Rattle.wse_history.specs.Outcome.{Outcome, bump_each}
use Rattle.wse_history.specs.Step.{recorded, with_locks, left}
use Rattle.wse_history.proofs.AloneLemmas.{linked_split_state}
use Rattle.wse_history.proofs.GoLemmas.{splits_may}
use Rattle.wse_history.proofs.ShapeLemmas.{now, positive_of, linked_now, split_now}
use Rattle.wse_history.proofs.UndoLemmas.{goes_here, piece_goes}
use Rattle.wse_history.proofs.Words.{AreLinked}
use Rattle.wse_lives.specs.Lives.{Life, lived}
use Rattle.wse_lives.specs.Events.{fresh}
use Rattle.wse_lives.specs.After.{left_after, life_of}
use Rattle.wse_lives.specs.Returns.{Returns, moved_among}
use Rattle.wse_lives.specs.Laws.{UndoOverLives}
use Rattle.wse_lives.proofs.AdoptLemmas.{adopting_keeps, lives_are_true}
use Rattle.wse_lives.proofs.DoneLemmas.{IsDone, ruled_done, moved_paths}
use Rattle.wse_lives.proofs.GaveLemmas.{IsOfLife, of_life_same}
use Rattle.wse_lives.proofs.LifeLemmas.{fresh_is_sound, lived_is}
use Rattle.wse_lives.proofs.OverLemmas.{of_life_all, moved_there, moves_back}
use Rattle.wse_lives.proofs.StayLemmas.{holds_after}
use Rattle.wse_lives.proofs.StepLemmas.{recorded_is}

-- What an outcome that is done moves: the stacks at which the move comes, which are the state's or those after a split.
pub record Moving (limits : Limits) (s : State) (direction : Direction) (note : Option SplitNote) (id : ℕ) (o : Outcome) : Type 0 where
  pub h : StacksState
  pub before : List Effect
  pub paths : List Path
  pub effects : o.effects ≡ before ++ (move_effect direction id ∷ bump_each paths)
  pub locks : o.locks ≡ None
  pub among : h.records ≡ moved_among s note
  pub named : paths ≡ option_map_or all_paths (record_of h.records id) []
  pub fits : hit_of limits (before ++ (move_effect direction id ∷ bump_each paths)) (state_after s (before ++ (move_effect direction id ∷ bump_each paths))) ≡ None
  pub here : after_each (now s) before ≡ h
  pub versions_still : (versions : Numbers) → versions_after_each versions before ≡ versions
  pub still : (files : Entries) → files_after_each (now s) before files ≡ files
  pub linked : AreLinked h
  pub may : may_come h (move_effect direction id) ≡ true
  pub tree : (p : Path) → IsTreeLinkedAt s.files h.records p
  pub life : (start : State) (life : Life) (p : Path) → AllByRecursion (IsOfLife start life p) (live_at s.records p) → AllByRecursion (IsOfLife start life p) (live_at h.records p)

piece_of : (f : Record → Ruling) (o : Option Record) (id : ℕ) → option_map_or f o rulings.Nothing ≡ rulings.Go id → record { piece : Record; is : o ≡ Some piece; one : f piece ≡ rulings.Go id }
piece_of f None id e = cc
piece_of f (Some r) id e = record { piece = r; is = refl; one = e }

module _ (limits : Limits) (s : State) (by : ℕ) (direction : Direction) (p : Path) (choice : Choice) (note : Option SplitNote) (id : ℕ) (versions : List Numbered) (set : IsHistory s limits) where
  plain_moving : (r : Ruling) → ruling direction s.records s.locks by p choice ≡ r → IsDone limits s (begun_course s direction p) note id versions (ruled limits s (begun_course s direction p) r)
      → Moving limits s direction note id (ruled limits s (begun_course s direction p) r)
  plain_moving r is done =
      let course = begun_course s direction p in
      let d = ruled_done limits s course note id versions r done in
      subst (λ x. Moving limits s direction note id (ruled limits s course x)) (sym d.0) (record {
        h = now s;
        before = [];
        paths = moved_paths course id;
        effects = d.1.effects;
        locks = d.1.locks;
        among = ap (moved_among s) d.1.note_is;
        named = refl;
        fits = d.1.fits;
        here = refl;
        versions_still = λ versions. refl;
        still = λ files. refl;
        linked = linked_now limits s set;
        may = goes_here direction s by p choice id (linked_now limits s set) (is ∙ d.0);
        tree = set.linked.each;
        life = λ start life q all. all;
      })

  split_moving : (first : ℕ) (cause : Cause) (files : List Path) → ruling direction s.records s.locks by p choice ≡ rulings.Split first cause files
      → IsDone limits s (begun_course s direction p) note id versions (first_ruled limits s by p (begun_course s direction p) (rulings.Split first cause files))
      → Moving limits s direction note id (first_ruled limits s by p (begun_course s direction p) (rulings.Split first cause files))
  split_moving first cause files is done =
      let told : SplitNote = record { id = first; cause = cause; files = files } in
      let h = split_now s first in
      let course : Course = record (begun_course s direction p) { records = h.records; effects = Split first s.next_id ∷ []; note = Some told } in
      let r = option_map_or (one_ruling s.locks by p) (closest direction h.records p) rulings.Nothing in
      let d = ruled_done limits s course note id versions r done in
      let piece = piece_of (one_ruling s.locks by p) (closest direction h.records p) id d.0 in
      let all = linked_now limits s set in
      let may = splits_may direction (now s) s.locks by p choice first cause files all is in
      subst (λ x. Moving limits s direction note id (ruled limits s course x)) (sym d.0) (record {
        h = h;
        before = Split first s.next_id ∷ [];
        paths = moved_paths course id;
        effects = d.1.effects;
        locks = d.1.locks;
        among = ap (moved_among s) d.1.note_is;
        named = refl;
        fits = d.1.fits;
        here = refl;
        versions_still = λ vs. refl;
        still = λ fs. refl;
        linked = linked_split_state (now s) first all (positive_of limits s set) may;
        may = piece_goes direction s by p choice first cause files piece.piece id all (positive_of limits s set) is piece.is piece.one;
        tree = tree_after (now s) (Split first s.next_id) s.files tt may (record { parts = all.parts; linked = all.linked; tree = set.linked.each });
        life = λ start life q these. holds_after q (IsOfLife start life q) (of_life_same start life q) s.records (Split first s.next_id) set.parts tt these;
      })

  pub first_moving : (r : Ruling) → ruling direction s.records s.locks by p choice ≡ r → IsDone limits s (begun_course s direction p) note id versions (first_ruled limits s by p (begun_course s direction p) r)
      → Moving limits s direction note id (first_ruled limits s by p (begun_course s direction p) r)
  first_moving rulings.Nothing is done = plain_moving rulings.Nothing is done
  first_moving (rulings.Cancelled other) is done = plain_moving (rulings.Cancelled other) is done
  first_moving (rulings.Go other) is done = plain_moving (rulings.Go other) is done
  first_moving (rulings.Split first cause files) is done = split_moving first cause files is done
  first_moving (rulings.Flush cause files dropped) is done = plain_moving (rulings.Flush cause files dropped) is done
  first_moving (rulings.Locked files) is done = plain_moving (rulings.Locked files) is done

-- ---- the files that it leaves

pub some_behind : (xs : List Effect) (y : Effect) (ys : List Effect) → xs ++ (y ∷ ys) ≢ []
some_behind [] y ys = λ e. cc
some_behind (x ∷ xs) y ys = λ e. cc

files_behind : (h : StacksState) (es fs : List Effect) (files : Entries) → files_after_each h (es ++ fs) files ≡ files_after_each (after_each h es) fs (files_after_each h es files)
files_behind h [] fs files = refl
files_behind h (e ∷ es) fs files = files_behind (after h e) es fs (set_files (contents_set h.records e) files)

pub files_bumps : (h : StacksState) (ps : List Path) (files : Entries) → files_after_each h (bump_each ps) files ≡ files
files_bumps h [] files = refl
files_bumps h (p ∷ ps) files = files_bumps (after h (Bump p 1)) ps files

pub moved_files : (limits : Limits) (s : State) (direction : Direction) (note : Option SplitNote) (id : ℕ) (o : Outcome) (m : Moving limits s direction note id o) → (left s o).files ≡ set_files (contents_set m.h.records (move_effect direction id)) s.files
moved_files limits s direction note id o m =
    let rest = move_effect direction id ∷ bump_each m.paths in
    let effects = m.before ++ rest in
    ap (λ locks. (with_locks locks (recorded s o.effects)).files) m.locks
    ∙ ap (λ es. (recorded s es).files) m.effects
    ∙ ap (λ (x : State). x.files) (recorded_is s effects (some_behind m.before (move_effect direction id) (bump_each m.paths)))
    ∙ sym (files_begun (stacks_of (kept_of s)) (s.serial + 1) effects s.files)
    ∙ files_behind (now s) m.before rest s.files
    ∙ (λ i. files_after_each (m.here i) rest (m.still s.files i))
    ∙ files_bumps (after m.h (move_effect direction id)) m.paths (set_files (contents_set m.h.records (move_effect direction id)) s.files)

one_at_most : 1 ≤ 1
one_at_most = omega arith

pub undo_over_lives : UndoOverLives
undo_over_lives limits files events within tree fits known lives by direction path choice note id versions done =
    let start = fresh files in
    let s = left_after limits start events in
    let life = life_of limits start events in
    let begins = fresh_is_sound limits files within tree fits known in
    let is_true = lives_are_true limits start events begins lives in
    let m = first_moving limits s by direction path choice note id versions is_true.sound (ruling direction s.records s.locks by path choice) refl done in
    let there = moved_there direction m.h id m.may in
    let last : lived start life ≡ s = lived_is adopting_keeps limits start begins events in
    let numbered : list_all (is_numbered (lived start life).next_id) s.records ≡ true = subst (λ (x : State). list_all (is_numbered x.next_id) s.records ≡ true) (sym last) is_true.sound.linked.kept.records.numbered in
    let back = moves_back direction start life m.h s.files id there.moved m.linked (parts_of_found m.h.records id there.moved m.linked.parts there.is) there.is m.may m.tree
    (λ p. m.life start life p (of_life_all start life p s.records one_at_most numbered (is_true.agree p))) in
    let next = move_outcome limits s by direction path choice in
    record {
      moved = there.moved;
      same = eqb-true there.moved.id id (find_passes (has_id id) m.h.records there.moved there.is);
      trees = back.trees;
      came = back.came;
      each = λ p. subst (λ fs. Returns direction back.trees s.files fs there.moved p) (sym (moved_files limits s direction note id next m)) (back.each p);
    }
