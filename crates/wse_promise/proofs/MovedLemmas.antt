-- An undo that is done, and a redo of the same record right after it.
use Rattle.std.proofs.Common.{◌≡◌, ℕ, ◌+◌, ◌<◌, true, false, cond, ◌⊎◌, inl, inr, List, [], ◌∷◌, ◌++◌, Option, Some, None, refl, sym, ap, subst, ◌∙◌, arith}
use Rattle.std.specs.Prelude.{find}
use Rattle.std.specs.List.{list_all, AllByRecursion}
use Rattle.std.proofs.lemmas.Bool.{ne_eqb, eqb-true}
use Rattle.std.proofs.lemmas.Option.{none-some, same_Some}
use Rattle.wse_path.specs.Path.{Path}
use Rattle.wse_path.specs.Tree.{Entries, set_files}
use Rattle.wse_path.specs.declared.change.Numbered.{Numbered}
use Rattle.wse_path.specs.declared.command.Choice.{Choice}
use Rattle.wse_path.specs.declared.command.Command.TheVariants as commands
use Rattle.wse_path.specs.declared.command.Direction.TheVariants.{Back, Forward}
use Rattle.wse_path.specs.declared.limits.Limits.{Limits}
use Rattle.wse_path.proofs.EntryLemmas.{and_parts}
use Rattle.wse_element.specs.declared.effect.Effect.TheVariants.{MoveForward, Split}
use Rattle.wse_element.specs.Record.{RecordPart, Record}
use Rattle.wse_element.specs.Live.{live_parts, old_at, new_at}
use Rattle.wse_element.specs.Linked.{are_different, is_numbered}
use Rattle.wse_element.specs.Stacks.{has_id, ids, record_of, live_at}
use Rattle.wse_element.specs.Split.{pieces, split}
use Rattle.wse_element.specs.State.{State}
use Rattle.wse_element.specs.Effects.{old_contents, new_contents, contents_set}
use Rattle.wse_element.proofs.AfterLemmas.{numbers_of}
use Rattle.wse_element.proofs.CloseLemmas.{In}
use Rattle.wse_element.proofs.ListLemmas.{find_passes}
use Rattle.wse_element.proofs.MoveLemmas.{with_done}
use Rattle.wse_element.proofs.PieceLemmas.{numbered_pieces}
use Rattle.wse_stacks.specs.Stacks.{HaveParts}
use Rattle.wse_rules.specs.Ruling.{ruling}
use Rattle.wse_history.specs.declared.answer.SplitNote.{SplitNote}
use Rattle.wse_history.specs.declared.answer.MoveEnd.TheVariants as ends
use Rattle.wse_history.specs.declared.answer.Answer.TheVariants.{Move}
use Rattle.wse_history.specs.History.{IsHistory}
use Rattle.wse_history.specs.Moves.{move_outcome}
use Rattle.wse_history.specs.Outcome.{Outcome}
use Rattle.wse_history.specs.Step.{step}
use Rattle.wse_history.proofs.GoLemmas.{found_itself}
use Rattle.wse_lives.specs.Lives.{Life, trees_of, Agrees, AgreesAt}
use Rattle.wse_lives.specs.Returns.{Returns, moved_among}
use Rattle.wse_lives.proofs.AgainLemmas.{m, next_is, may, x_files, found_x, tree_again}
use Rattle.wse_lives.proofs.AgreeLemmas.{agrees_same}
use Rattle.wse_lives.proofs.BackLemmas.{Moving, first_moving, moved_files}
use Rattle.wse_lives.proofs.GaveLemmas.{of_closest}
use Rattle.wse_lives.proofs.OverLemmas.{moved_there, sets_contents}
use Rattle.wse_lives.proofs.ReturnLemmas.{move_returns}
use Rattle.wse_lives.proofs.StayLemmas.{SaysSame, holds_after}
use Rattle.wse_lives.proofs.StepLemmas.{commands_keep}

-- ---- the records of a state of a life

-- What is known of a record that is live there: it agrees with the trees of the life, and its origin was given out.
pub record IsOfState (start : State) (life : Life) (next_id : ℕ) (p : Path) (r : Record) : Type 0 where
  pub agrees : AgreesAt start life p r
  pub known : r.origin < next_id

of_state_same : (start : State) (life : Life) (next_id : ℕ) (p : Path) (r s : Record) → SaysSame p r s → IsOfState start life next_id p r → IsOfState start life next_id p s
of_state_same start life next_id p r s same h = record {
  agrees = agrees_same start life p r s same h.agrees;
  known = subst (λ n. n < next_id) (sym same.origin) h.known;
}

pub of_state_all : (start : State) (life : Life) (next_id : ℕ) (p : Path) (records : List Record) → list_all (is_numbered next_id) records ≡ true → AllByRecursion (AgreesAt start life p) records → AllByRecursion (IsOfState start life next_id p) records
of_state_all start life next_id p [] numbered agree = tt
of_state_all start life next_id p (r ∷ records) numbered agree =
    let both = and_parts (is_numbered next_id r) (list_all (is_numbered next_id) records) numbered in
    (record { agrees = agree.0; known = (numbers_of next_id r both.0).known }, of_state_all start life next_id p records both.1 agree.1)

-- a split keeps it
of_state_among : (start : State) (life : Life) (s : State) (note : Option SplitNote) (p : Path) → HaveParts s.records → AllByRecursion (IsOfState start life s.next_id p) (live_at s.records p)
    → AllByRecursion (IsOfState start life s.next_id p) (live_at (moved_among s note) p)
of_state_among start life s None p parts all = all
of_state_among start life s (Some note) p parts all =
    holds_after p (IsOfState start life s.next_id p) (of_state_same start life s.next_id p) s.records (Split note.id s.next_id) parts tt all

-- ---- the record with an id that was given out stays the same in a split

no_piece : (r : Record) (parts : List RecordPart) (first id : ℕ) (rest : List Record) → id < first → find (has_id id) (numbered_pieces r parts first ++ rest) ≡ find (has_id id) rest
no_piece r [] first id rest l = refl
no_piece r (part ∷ more) first id rest l =
    ap (λ b. cond b (Some (record r { id = first; parts = part ∷ [] })) (find (has_id id) (numbered_pieces r more (first + 1) ++ rest))) (ne_eqb first id (λ e. omega (arith, e, l)))
    ∙ no_piece r more (first + 1) id rest (omega (arith, l))

was_in : (records : List Record) (other first id : ℕ) (q : Record) → id < first → record_of (split records other first) id ≡ Some q → In q records
was_in [] other first id q l is = absurd (none-some q is)
was_in (x ∷ records) other first id q l is =
    elim (has_id other x) as (λ b. find (has_id id) (cond b (pieces x first) (x ∷ []) ++ split records other first) ≡ Some q → (q ≡ x) ⊎ In q records) [
      | true ↦ λ e. inr (was_in records other first id q l (sym (no_piece x (live_parts x) first id (split records other first) l) ∙ e))
      | false ↦ λ e. elim (has_id id x) as (λ b. cond b (Some x) (find (has_id id) (split records other first)) ≡ Some q → (q ≡ x) ⊎ In q records) [
        | true ↦ λ f. inl (sym (same_Some x q f))
        | false ↦ λ f. inr (was_in records other first id q l f)
      ] e
    ] is

was_found : (s : State) (note : Option SplitNote) (id : ℕ) (q : Record) → are_different (ids s.records) ≡ true → id < s.next_id → record_of (moved_among s note) id ≡ Some q → record_of s.records id ≡ Some q
was_found s None id q different l is = is
was_found s (Some note) id q different l is =
    let same : q.id ≡ id = eqb-true q.id id (find_passes (has_id id) (split s.records note.id s.next_id) q is) in
    subst (λ n. record_of s.records n ≡ Some q) same (found_itself s.records q different (was_in s.records note.id s.next_id id q l is))

taken_of : (next_id : ℕ) (records : List Record) (id : ℕ) (r : Record) → list_all (is_numbered next_id) records ≡ true → record_of records id ≡ Some r → r.id < next_id
taken_of next_id [] id r all is = absurd (none-some r is)
taken_of next_id (x ∷ records) id r all is =
    let both = and_parts (is_numbered next_id x) (list_all (is_numbered next_id) records) all in
    elim (has_id id x) as (λ b. cond b (Some x) (record_of records id) ≡ Some r → r.id < next_id) [
      | true ↦ λ e. subst (λ (y : Record). y.id < next_id) (same_Some x r e) (numbers_of next_id x both.0).taken
      | false ↦ λ e. taken_of next_id records id r both.1 e
    ] is

-- ---- the undo, and the redo

module _ (limits : Limits) (s : State) (set : IsHistory s limits) (by : ℕ) (path : Path) (choice : Choice) (note : Option SplitNote) (versions : List Numbered) (r : Record)
    (done : (move_outcome limits s by Back path choice).answer ≡ Move note (ends.Done r.id versions)) (found : record_of (moved_among s note) r.id ≡ Some r) where
  abbrev next : State
  next = step limits s (commands.Move by Back path choice)

  abbrev moving : Moving limits s Back note r.id (move_outcome limits s by Back path choice)
  moving = m limits s set by path choice note versions r done found

  next_files : next.files ≡ set_files (old_contents r) s.files
  next_files = ap (λ (x : State). x.files) (next_is limits s set by path choice note versions r done found) ∙ x_files limits s set by path choice note versions r done found

  -- the undo finds and gives back the trees around the coming of the record's origin
  pub undo_returns : (start : State) (life : Life) (trees : Entries × Entries) (p : Path) → AllByRecursion (IsOfState start life s.next_id p) (live_at s.records p)
      → (r.origin < s.next_id → trees_of start life r.origin ≡ Some trees) → Returns Back trees s.files next.files r p
  undo_returns start life trees p all came =
      let goes = may limits s set by path choice note versions r done found in
      let among = subst (λ (records : List Record). AllByRecursion (IsOfState start life s.next_id p) (live_at records p)) (sym moving.among) (of_state_among start life s note p set.parts all) in
      subst (λ files. Returns Back trees s.files files r p) (sym next_files)
      (move_returns Back moving.h.records r s.files trees p goes (moving.tree p)
      (λ live.
      let it = of_closest (IsOfState start life s.next_id p) Back moving.h.records p r among (goes.closest_at p live) in
      subst (λ o. Agrees o p (old_at p r) (new_at p r)) (came it.known) it.agrees))

  sound_next : IsHistory next limits
  sound_next = (commands_keep limits s (commands.Move by Back path choice) set).0

  found_next : record_of next.records r.id ≡ Some (with_done r false)
  found_next = ap (λ (x : State). record_of x.records r.id) (next_is limits s set by path choice note versions r done found) ∙ found_x limits s set by path choice note versions r done found

  -- the redo leaves the tree that the undo found
  pub redo_files : (again_by : ℕ) (at : Path) (again_choice : Choice) (again_note : Option SplitNote) (again_versions : List Numbered)
      → (move_outcome limits next again_by Forward at again_choice).answer ≡ Move again_note (ends.Done r.id again_versions)
      → (step limits next (commands.Move again_by Forward at again_choice)).files ≡ s.files
  redo_files again_by at again_choice again_note again_versions again =
      let o : Outcome = move_outcome limits next again_by Forward at again_choice in
      let g = first_moving limits next again_by Forward at again_choice again_note r.id again_versions sound_next (ruling Forward next.records next.locks again_by at again_choice) refl again in
      let there = moved_there Forward g.h r.id g.may in
      let linked = sound_next.linked.kept.records in
      let was = was_found next again_note r.id there.moved linked.different (taken_of next.next_id next.records r.id (with_done r false) linked.numbered found_next)
      (ap (λ (records : List Record). record_of records r.id) (sym g.among) ∙ there.is) in
      let same : there.moved ≡ with_done r false = same_Some there.moved (with_done r false) (sym was ∙ found_next) in
      let sets : contents_set g.h.records (MoveForward r.id) ≡ new_contents r = sets_contents Forward g.h.records r.id there.moved there.is ∙ ap new_contents same in
      moved_files limits next Forward again_note r.id o g
      ∙ (λ i. set_files (sets i) (next_files i))
      ∙ tree_again limits s set by path choice note versions r done found
