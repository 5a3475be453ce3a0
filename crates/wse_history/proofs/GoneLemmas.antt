-- What an undo or a redo of a whole record is, and what closing its parts is.
use Rattle.std.proofs.Common.{◌≡◌, ℕ, true, List, [], ◌∷◌, ◌++◌, Option, Some, None, sym, ap, subst, ◌∙◌}
use Rattle.std.specs.Prelude.{if◌then◌else◌}
use Rattle.std.specs.Option.{option_map_or}
use Rattle.wse_path.specs.Path.{Path}
use Rattle.wse_path.specs.Tree.{Entries, set_files, IsTree}
use Rattle.wse_path.specs.declared.command.Direction.{Direction}
use Rattle.wse_path.specs.declared.command.Direction.TheVariants.{Back, Forward}
use Rattle.wse_path.specs.declared.limits.Limits.{Limits}
use Rattle.wse_element.specs.declared.effect.Effect.TheVariants.{MoveBack, MoveForward, Split}
use Rattle.wse_element.specs.Content.{Content}
use Rattle.wse_element.specs.Record.{Record}
use Rattle.wse_element.specs.Stacks.{record_of}
use Rattle.wse_element.specs.State.{StacksState, State, stacks_of, kept_of}
use Rattle.wse_element.specs.Effects.{after, old_contents, new_contents, contents_set, files_after_each, state_after}
use Rattle.wse_element.specs.Applicable.{may_come}
use Rattle.wse_element.proofs.TreeLemmas.{parts_of_found}
use Rattle.wse_rules.specs.Ruling.{all_paths}
use Rattle.wse_history.specs.declared.answer.Answer.TheVariants.{Move}
use Rattle.wse_history.specs.declared.answer.MoveEnd.TheVariants as ends
use Rattle.wse_history.specs.declared.answer.SplitNote.{SplitNote}
use Rattle.wse_history.specs.declared.asked.Asked.{Asked}
use Rattle.wse_history.specs.History.{IsHistory}
use Rattle.wse_history.specs.Laws.{MayApply}
use Rattle.wse_history.specs.Limits.{hit_of, within_limits}
use Rattle.wse_history.specs.Moves.{move_effect, gone}
use Rattle.wse_history.specs.Moving.{contents_to, paths_of as part_paths, split_before, moved_outcome, MayMove}
use Rattle.wse_history.specs.Outcome.{Outcome, stays, is_some_of, numbered, bump_each}
use Rattle.wse_element.specs.Way.{in_the_way}
use Rattle.wse_history.proofs.GoLemmas.{moves_tree}
use Rattle.wse_history.proofs.ShapeLemmas.{now, linked_now, may_apply, move_comes, split_now, split_move_comes, files_bumps, paths_of}
use Rattle.wse_history.proofs.Words.{AreLinked}

-- ---- the outcome at a record is that at its parts

-- `moved_outcome` with the contents and the paths given
abbrev gone_from : Limits → State → Asked → ℕ → List (Path × Content) → List Path → Outcome
gone_from limits s asked id contents paths =
    let blocking = in_the_way s.files contents in
    if is_some_of blocking then stays (Move None (ends.InTheWay asked.id blocking))
    else within_limits limits s (split_before asked.split s.next_id ++ (move_effect asked.direction id ∷ bump_each paths)) (λ hit. Move None (ends.Limit asked.id hit)) (λ next. Move asked.split (ends.Done id (numbered next paths)))

pub gone_whole : (limits : Limits) (s : State) (direction : Direction) (asked id : ℕ) (r : Record) → record_of s.records id ≡ Some r
    → moved_outcome limits s (record { direction = direction; id = asked; split = None }) id r.parts ≡ gone limits s (record { direction = direction; records = s.records; effects = []; note = None; asked = asked }) id
gone_whole limits s Back asked id r found =
    ap (λ (o : Option Record). gone_from limits s (record { direction = Back; id = asked; split = None }) id (option_map_or old_contents o []) (option_map_or all_paths o [])) (sym found)
gone_whole limits s Forward asked id r found =
    ap (λ (o : Option Record). gone_from limits s (record { direction = Forward; id = asked; split = None }) id (option_map_or new_contents o []) (option_map_or all_paths o [])) (sym found)

pub gone_piece : (limits : Limits) (s : State) (direction : Direction) (asked id : ℕ) (note : SplitNote) (r : Record) → record_of (split_now s note.id).records id ≡ Some r
    → moved_outcome limits s (record { direction = direction; id = asked; split = Some note }) id r.parts
    ≡ gone limits s (record { direction = direction; records = (split_now s note.id).records; effects = Split note.id s.next_id ∷ []; note = Some note; asked = asked }) id
gone_piece limits s Back asked id note r found =
    ap (λ (o : Option Record). gone_from limits s (record { direction = Back; id = asked; split = Some note }) id (option_map_or old_contents o []) (option_map_or all_paths o [])) (sym found)
gone_piece limits s Forward asked id note r found =
    ap (λ (o : Option Record). gone_from limits s (record { direction = Forward; id = asked; split = Some note }) id (option_map_or new_contents o []) (option_map_or all_paths o [])) (sym found)

-- ---- it may come

contents_found : (direction : Direction) (records : List Record) (id : ℕ) (r : Record) → record_of records id ≡ Some r → contents_set records (move_effect direction id) ≡ contents_to direction r.parts
contents_found Back records id r found = ap (λ (o : Option Record). option_map_or old_contents o []) found
contents_found Forward records id r found = ap (λ (o : Option Record). option_map_or new_contents o []) found

paths_found : (records : List Record) (id : ℕ) (r : Record) → record_of records id ≡ Some r → paths_of records id ≡ part_paths r.parts
paths_found records id r found = ap (λ (o : Option Record). option_map_or all_paths o []) found

files_moved : (direction : Direction) (h : StacksState) (id : ℕ) (paths : List Path) (files : Entries) → files_after_each h (move_effect direction id ∷ bump_each paths) files ≡ set_files (contents_set h.records (move_effect direction id)) files
files_moved Back h id paths files = files_bumps (after h (MoveBack id)) paths (set_files (contents_set h.records (MoveBack id)) files)
files_moved Forward h id paths files = files_bumps (after h (MoveForward id)) paths (set_files (contents_set h.records (MoveForward id)) files)

module _ (limits : Limits) (s : State) (direction : Direction) (asked id : ℕ) (r : Record) (set : IsHistory s limits) where
  module _ (found : record_of s.records id ≡ Some r) (may : may_come (now s) (move_effect direction id) ≡ true) where
    pub whole_moves : MayMove limits s (record { direction = direction; id = asked; split = None }) id r.parts
    whole_moves =
        let are = contents_found direction s.records id r found in
        let paths = paths_found s.records id r found in
        record {
          rise = (parts_of_found s.records id r set.parts found).rise;
          files = files_moved direction (stacks_of (kept_of s)) id (part_paths r.parts) s.files ∙ ap (λ cs. set_files cs s.files) are;
          tree = λ free. subst (λ cs. IsTree (set_files cs s.files)) are (moves_tree direction (now s) id s.files (linked_now limits s set) may set.linked.tree (ap (in_the_way s.files) are ∙ free));
          may = λ free none. subst (λ (ps : List Path). Shown ps) paths
              (λ hit. may_apply limits s (move_effect direction id ∷ bump_each (paths_of s.records id)) set (λ e. cc) (move_comes limits s direction id set may (ap (in_the_way s.files) are ∙ free) hit)) none;
        }
      where
        Shown : List Path → Type 0
        Shown ps = hit_of limits (move_effect direction id ∷ bump_each ps) (state_after s (move_effect direction id ∷ bump_each ps)) ≡ None → MayApply limits s (move_effect direction id ∷ bump_each ps)

  module _ (note : SplitNote) (found : record_of (split_now s note.id).records id ≡ Some r) (all : AreLinked (split_now s note.id)) (first : may_come (now s) (Split note.id s.next_id) ≡ true) (may : may_come (split_now s note.id) (move_effect direction id) ≡ true) where
    pub piece_moves : MayMove limits s (record { direction = direction; id = asked; split = Some note }) id r.parts
    piece_moves =
        let h = split_now s note.id in
        let are = contents_found direction h.records id r found in
        let paths = paths_found h.records id r found in
        record {
          rise = (parts_of_found h.records id r all.parts found).rise;
          files = files_moved direction (after (stacks_of (kept_of s)) (Split note.id s.next_id)) id (part_paths r.parts) s.files ∙ ap (λ cs. set_files cs s.files) are;
          tree = λ free. subst (λ cs. IsTree (set_files cs s.files)) are (moves_tree direction h id s.files all may set.linked.tree (ap (in_the_way s.files) are ∙ free));
          may = λ free none. subst (λ (ps : List Path). Shown ps) paths
              (λ hit. may_apply limits s (Split note.id s.next_id ∷ move_effect direction id ∷ bump_each (paths_of h.records id)) set (λ e. cc) (split_move_comes limits s direction note.id id set all first may (ap (in_the_way s.files) are ∙ free) hit)) none;
        }
      where
        Shown : List Path → Type 0
        Shown ps = hit_of limits (Split note.id s.next_id ∷ move_effect direction id ∷ bump_each ps) (state_after s (Split note.id s.next_id ∷ move_effect direction id ∷ bump_each ps)) ≡ None
            → MayApply limits s (Split note.id s.next_id ∷ move_effect direction id ∷ bump_each ps)
