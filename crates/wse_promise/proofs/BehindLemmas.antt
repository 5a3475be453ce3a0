-- Undone work over the lines of a run.
use Rattle.std.proofs.Common.{◌≡◌, ℕ, zero, suc, ◌+◌, true, List, Option, sym, ap, subst, ◌∙◌, arith, add-one}
use Rattle.std.specs.List.{AllByRecursion}
use Rattle.wse_path.specs.Path.{Path}
use Rattle.wse_path.specs.Tree.{content}
use Rattle.wse_path.specs.declared.command.Command.TheVariants as commands
use Rattle.wse_path.specs.declared.command.Direction.{Direction}
use Rattle.wse_path.specs.declared.command.Direction.TheVariants.{Back, Forward}
use Rattle.wse_element.specs.Linked.{is_numbered}
use Rattle.wse_element.specs.Live.{is_live_at}
use Rattle.wse_element.specs.Record.{Record}
use Rattle.wse_element.specs.Stacks.{live_at}
use Rattle.wse_element.specs.State.{State}
use Rattle.wse_element.proofs.ListLemmas.{list_all-filter}
use Rattle.wse_history.specs.declared.answer.Answer.TheVariants as answers
use Rattle.wse_history.specs.declared.answer.MoveEnd.TheVariants as ends
use Rattle.wse_history.specs.declared.answer.SplitNote.{SplitNote}
use Rattle.wse_history.specs.History.{IsHistory}
use Rattle.wse_history.specs.Moves.{move_outcome}
use Rattle.wse_history.specs.Step.{step}
use Rattle.wse_store.specs.Store.{Setting}
use Rattle.wse_lives.specs.Lives.{came_with}
use Rattle.wse_lives.specs.Returns.{Returns}
use Rattle.wse_promise.specs.Fronts.{behind}
use Rattle.wse_promise.specs.Work.{IsDoneAt, Undoes, GivesBack}
use Rattle.wse_promise.specs.Laws.{UndoesOverLines}
use Rattle.wse_promise.proofs.NextLemmas.{lives, sound_at, agree_at, trees_at}
use Rattle.wse_promise.proofs.LineLemmas.{line_done, front_next, front_begins, front_line}
use Rattle.wse_promise.proofs.MovedLemmas.{IsOfState, of_state_all, undo_returns, redo_files}

next_two : (k : ℕ) → k + 1 + 1 ≡ suc (suc k)
next_two k = omega arith

module _ (setting : Setting) (first : State) (lines : List (List ℕ)) (begins : IsHistory first setting.limits) where
  abbrev at : ℕ → State
  at k = behind setting first lines k

  sound : (k : ℕ) → IsHistory (at k) setting.limits
  sound k = sound_at setting.limits at (front_next setting first lines) (subst (λ (s : State). IsHistory s setting.limits) (sym (front_begins setting first lines)) begins) k

  -- What is known where a line is answered as done: the answer of its command, and the state that it leaves.
  record IsMoved (k : ℕ) (direction : Direction) (note : Option SplitNote) (id : ℕ) (done : IsDoneAt setting first lines k direction note id) : Type 0 where
    answer : (move_outcome setting.limits (at k) done.by direction done.path done.choice).answer ≡ answers.Move note (ends.Done id done.versions)
    leaves : at (suc k) ≡ step setting.limits (at k) (commands.Move done.by direction done.path done.choice)

  moved_at : (k : ℕ) (direction : Direction) (note : Option SplitNote) (id : ℕ) (done : IsDoneAt setting first lines k direction note id) → IsMoved k direction note id done
  moved_at k direction note id done =
      let is = line_done setting (at k) done.line (commands.Move done.by direction done.path done.choice) (answers.Move note (ends.Done id done.versions)) done.asks done.answer in
      record { answer = is.0; leaves = front_line setting first lines k done.line done.is_line ∙ is.1 }

  of_state : (k : ℕ) (p : Path) → AllByRecursion (IsOfState (at zero) (lives setting.limits at (front_next setting first lines) k) (at k).next_id p) (live_at (at k).records p)
  of_state k p =
      of_state_all (at zero) (lives setting.limits at (front_next setting first lines) k) (at k).next_id p (live_at (at k).records p)
      (list_all-filter (is_numbered (at k).next_id) (is_live_at p) (at k).records (sound k).linked.kept.records.numbered)
      (agree_at setting.limits at (front_next setting first lines) (subst (λ (s : State). IsHistory s setting.limits) (sym (front_begins setting first lines)) begins) k p)

  module _ (made undone : ℕ) (r : Record) (u : Undoes setting first lines made undone r) where
    abbrev done : IsDoneAt setting first lines undone Back u.note r.id
    done = u.is_done

    is : IsMoved undone Back u.note r.id done
    is = moved_at undone Back u.note r.id done

    came : came_with (at made) (at (suc made)) r.origin ≡ true
    came = subst (λ n. came_with (at made) (at n) r.origin ≡ true) (add-one made) u.is_made

    returns : (p : Path) → Returns Back ((at made).files, (at (suc made)).files) (at undone).files (at (suc undone)).files r p
    returns p =
        subst (λ (s : State). Returns Back ((at made).files, (at (suc made)).files) (at undone).files s.files r p) (sym is.leaves)
        (undo_returns setting.limits (at undone) (sound undone) done.by done.path done.choice u.note done.versions r is.answer u.is_moved
        (at zero) (lives setting.limits at (front_next setting first lines) undone) ((at made).files, (at (suc made)).files) p (of_state undone p)
        (λ here. trees_at setting.limits at (front_next setting first lines) made undone r.origin came here))

    returns_again : (note : Option SplitNote) → IsDoneAt setting first lines (suc undone) Forward note r.id → (at (suc (suc undone))).files ≡ (at undone).files
    returns_again note next =
        let redone = moved_at (suc undone) Forward note r.id next in
        let then = step setting.limits (at undone) (commands.Move done.by Back done.path done.choice) in
        ap (λ (s : State). s.files) redone.leaves
        ∙ ap (λ (s : State). (step setting.limits s (commands.Move next.by Forward next.path next.choice)).files) is.leaves
        ∙ redo_files setting.limits (at undone) (sound undone) done.by done.path done.choice u.note done.versions r is.answer u.is_moved
        next.by next.path next.choice note next.versions
        (ap (λ (s : State). (move_outcome setting.limits s next.by Forward next.path next.choice).answer) (sym is.leaves) ∙ redone.answer)

    pub gives_back : GivesBack setting first lines made undone r
    gives_back = record {
      found = λ p live. (returns p).found live ∙ ap (λ n. content (at n).files p) (sym (add-one made));
      left = λ p live. ap (λ n. content (at n).files p) (add-one undone) ∙ (returns p).left live;
      others = λ p live. ap (λ n. content (at n).files p) (add-one undone) ∙ (returns p).others live;
      again = λ note next. ap (λ n. (at n).files) (next_two undone) ∙ returns_again note (subst (λ n. IsDoneAt setting first lines n Forward note r.id) (add-one undone) next);
    }

pub undoes_over_lines : UndoesOverLines
undoes_over_lines setting first lines begins = λ made undone r u. gives_back setting first lines begins made undone r u
