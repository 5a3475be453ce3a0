-- An undo or a redo that is answered with Done gave back what was there.
use Rattle.std.proofs.Common.{◌≡◌, ◌≢◌, ℕ, true, false, cond, List, [], ◌∷◌, ◌++◌, Option, Some, None, refl, ap, subst}
use Rattle.std.specs.Option.{option_map_or}
use Rattle.wse_path.specs.Path.{Path}
use Rattle.wse_path.specs.declared.change.Numbered.{Numbered}
use Rattle.wse_path.specs.declared.limits.Hit.{Hit}
use Rattle.wse_path.specs.declared.limits.Limits.{Limits}
use Rattle.wse_element.specs.declared.effect.Effect.{Effect}
use Rattle.wse_element.specs.Stacks.{record_of}
use Rattle.wse_element.specs.State.{State}
use Rattle.wse_element.specs.Effects.{contents_set, state_after}
use Rattle.wse_rules.specs.Ruling.{all_paths}
use Rattle.wse_rules.specs.declared.ruling.Ruling.{Ruling}
use Rattle.wse_rules.specs.declared.ruling.Ruling.TheVariants as rulings
use Rattle.wse_history.specs.declared.answer.SplitNote.{SplitNote}
use Rattle.wse_history.specs.declared.answer.MoveEnd.{MoveEnd}
use Rattle.wse_history.specs.declared.answer.MoveEnd.TheVariants as ends
use Rattle.wse_history.specs.declared.answer.Answer.TheVariants.{Move}
use Rattle.wse_element.specs.Way.{in_the_way}
use Rattle.wse_history.specs.Outcome.{Outcome, stays, records, is_some_of, numbered, bump_each}
use Rattle.wse_history.specs.Limits.{hit_of}
use Rattle.wse_history.specs.Moves.{Course, move_effect, ended, gone, close_each, ruled}

abbrev pub moved_paths : Course → ℕ → List Path
moved_paths course id = option_map_or all_paths (record_of course.records id) []

abbrev pub move_effects : Course → ℕ → List Effect
move_effects course id = course.effects ++ (move_effect course.direction id ∷ bump_each (moved_paths course id))

-- The outcome moves the record with the id, behind the course's effects, with the note of its split, and passes no limit.
pub record Goes (limits : Limits) (s : State) (course : Course) (note : Option SplitNote) (id : ℕ) (o : Outcome) : Type 0 where
  pub effects : o.effects ≡ move_effects course id
  pub locks : o.locks ≡ None
  pub note_is : course.note ≡ note
  pub fits : hit_of limits (move_effects course id) (state_after s (move_effects course id)) ≡ None

module _ (limits : Limits) (s : State) (course : Course) (note : Option SplitNote) (id : ℕ) (versions : List Numbered) where
  abbrev pub IsDone : Outcome → Type 0
  IsDone o = o.answer ≡ Move note (ends.Done id versions)

  -- what is recorded with another end isn't done
  not_done : (effects : List Effect) (end : State → MoveEnd) → ((next : State) → end next ≢ ends.Done id versions) → IsDone (ended limits s course effects end) → ⊥
  not_done effects end other h =
      let all = course.effects ++ effects in
      let next = state_after s all in
      elim (hit_of limits all next) as (λ o. IsDone (option_map_or (λ (hit : Hit). stays (Move None (ends.Limit course.asked hit))) o (records all (Move course.note (end next)))) → ⊥) [
        | None ↦ λ e. other next cc
        | Some hit ↦ λ e. cc
      ] h

  pub gone_done : (moved : ℕ) → IsDone (gone limits s course moved) → (moved ≡ id) × Goes limits s course note moved (gone limits s course moved)
  gone_done moved h =
      let paths = moved_paths course moved in
      let all = move_effects course moved in
      let next = state_after s all in
      let blocking = in_the_way s.files (contents_set course.records (move_effect course.direction moved)) in
      let end : State → MoveEnd = λ n. ends.Done moved (numbered n paths) in
      elim (is_some_of blocking) as (λ b. IsDone (cond b (stays (Move None (ends.InTheWay course.asked blocking))) (ended limits s course (move_effect course.direction moved ∷ bump_each paths) end))
      → (moved ≡ id) × Goes limits s course note moved (cond b (stays (Move None (ends.InTheWay course.asked blocking))) (ended limits s course (move_effect course.direction moved ∷ bump_each paths) end))) [
        | true ↦ λ e. cc
        | false ↦ elim (hit_of limits all next) as (λ o. hit_of limits all next ≡ o → IsDone (option_map_or (λ (hit : Hit). stays (Move None (ends.Limit course.asked hit))) o (records all (Move course.note (end next))))
            → (moved ≡ id) × Goes limits s course note moved (option_map_or (λ (hit : Hit). stays (Move None (ends.Limit course.asked hit))) o (records all (Move course.note (end next))))) [
              | None ↦ λ f e. (cc, record { effects = refl; locks = refl; note_is = cc; fits = f })
              | Some hit ↦ λ f e. cc
            ] refl
      ] h

  -- of all rulings only Go is done
  pub ruled_done : (r : Ruling) → IsDone (ruled limits s course r) → (r ≡ rulings.Go id) × Goes limits s course note id (ruled limits s course (rulings.Go id))
  ruled_done rulings.Nothing h = cc
  ruled_done (rulings.Cancelled other) h = cc
  ruled_done (rulings.Go moved) h =
      let both = gone_done moved h in
      (ap rulings.Go both.0, subst (λ n. Goes limits s course note n (gone limits s course n)) both.0 both.1)
  ruled_done (rulings.Split other cause files) h = cc
  ruled_done (rulings.Flush cause files dropped) h = absurd (not_done (close_each course.records dropped) (λ next. ends.Flushed cause files dropped) (λ next e. cc) h)
  ruled_done (rulings.Locked files) h =
      elim (is_some_of course.effects) as (λ b. IsDone (cond b (ended limits s course [] (λ next. ends.Locked files)) (stays (Move None (ends.Locked files)))) → (rulings.Locked files ≡ rulings.Go id) × Goes limits s course note id (ruled limits s course (rulings.Go id))) [
        | true ↦ λ e. absurd (not_done [] (λ next. ends.Locked files) (λ next k. cc) e)
        | false ↦ λ e. cc
      ] h
