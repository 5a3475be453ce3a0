-- What an edit that was performed comes to.
use Rattle.std.proofs.Common.{◌≡◌, true, false, List, [], length, map, nat_eq, Option, Some, None, sym, ap, ◌∙◌}
use Rattle.std.specs.Prelude.{if◌then◌else◌}
use Rattle.std.specs.Option.{option_map_or}
use Rattle.wse_path.specs.declared.edit.Edit.{Edit}
use Rattle.wse_path.specs.declared.limits.Hit.{Hit}
use Rattle.wse_path.specs.declared.limits.Limits.{Limits}
use Rattle.wse_element.specs.declared.effect.Effect.{Effect}
use Rattle.wse_element.specs.State.{State}
use Rattle.wse_element.specs.Effects.{state_after}
use Rattle.wse_apply.specs.declared.performed.Performed.{Performed}
use Rattle.wse_history.specs.declared.answer.Answer.TheVariants as answers
use Rattle.wse_history.specs.Outcome.{Outcome, stays, records, is_some_of, numbered}
use Rattle.wse_history.specs.Edits.{edit_effects, edit_hit, performed_outcome}
use Rattle.wse_history.specs.Plans.{element_of}
use Rattle.wse_slow_history.proofs.OutcomeLemmas.{chosen, unchosen, none_there, some_there}

module _ (limits : Limits) (s : State) (edit : Edit) (done : Performed) (effects : List Effect) (is : effects ≡ edit_effects s edit done) where
  abbrev made : List Effect → Outcome
  made es = records es (answers.Edit (numbered (state_after s es) (map (λ b. b.path) done.bumps)) (element_of s.next_id done.changes) done.failed None done.skipped)

  abbrev by_hit : Option Hit → List Effect → Outcome
  by_hit hit es = option_map_or (λ h. stays (answers.Edit [] None None (Some h) done.skipped)) hit (made es)

  abbrev whole : List Effect → Outcome
  whole es = if is_some_of es then by_hit (edit_hit limits (state_after s es)) es else stays (answers.Edit [] None done.failed None done.skipped)

  pub edit_nothing : nat_eq (length effects) 0 ≡ true → stays (answers.Edit [] None done.failed None done.skipped) ≡ performed_outcome limits s edit done
  edit_nothing none =
      unchosen (is_some_of effects) (by_hit (edit_hit limits (state_after s effects)) effects) (stays (answers.Edit [] None done.failed None done.skipped)) (none_there effects none)
      ∙ ap whole is

  some : nat_eq (length effects) 0 ≡ false → by_hit (edit_hit limits (state_after s effects)) effects ≡ performed_outcome limits s edit done
  some are =
      chosen (is_some_of effects) (by_hit (edit_hit limits (state_after s effects)) effects) (stays (answers.Edit [] None done.failed None done.skipped)) (some_there effects are)
      ∙ ap whole is

  pub edit_refused : nat_eq (length effects) 0 ≡ false → (hit : Hit) → edit_hit limits (state_after s effects) ≡ Some hit
      → stays (answers.Edit [] None None (Some hit) done.skipped) ≡ performed_outcome limits s edit done
  edit_refused are hit hits = ap (λ o. by_hit o effects) (sym hits) ∙ some are

  pub edit_records : nat_eq (length effects) 0 ≡ false → edit_hit limits (state_after s effects) ≡ None → made effects ≡ performed_outcome limits s edit done
  edit_records are none = ap (λ o. by_hit o effects) (sym none) ∙ some are
