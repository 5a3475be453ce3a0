-- What an edit does to the history, and its answer. This project's own rule.
use Rattle.std.specs.Prelude.{ℕ, true, List, [], ◌∷◌, ◌++◌, map, filter, Option, Some, None, if◌then◌else◌}
use Rattle.std.specs.Option.{option_or, option_map_or}
use Rattle.wse_path.specs.declared.change.Change.{Change}
use Rattle.wse_path.specs.declared.edit.Edit.{Edit}
use Rattle.wse_path.specs.declared.limits.Hit.{Hit}
use Rattle.wse_path.specs.declared.limits.Limits.{Limits}
use Rattle.wse_element.specs.declared.state.PartState.TheVariants.{Live, Incompatible}
use Rattle.wse_element.specs.declared.body.Body.TheVariants.{Whole}
use Rattle.wse_element.specs.declared.effect.Effect.{Effect}
use Rattle.wse_element.specs.declared.effect.Effect.TheVariants.{Push, Drop, Bump}
use Rattle.wse_element.specs.Record.{RecordPart, Record}
use Rattle.wse_element.specs.State.{State}
use Rattle.wse_element.specs.Effects.{state_after}
use Rattle.wse_element.specs.Applicable.{has_future}
use Rattle.wse_apply.specs.Kept.{all_edit_texts}
use Rattle.wse_apply.specs.Performed.{performed}
use Rattle.wse_apply.specs.declared.performed.Performed.{Performed}
use Rattle.wse_history.specs.declared.answer.Answer.TheVariants as answers
use Rattle.wse_history.specs.Outcome.{Outcome, stays, records, is_some_of, numbered}
use Rattle.wse_history.specs.Limits.{serial_hit, known_hit, weight_hit}

abbrev pub part_of : Change → RecordPart
part_of c = record { path = c.path; state = Live; valid = true; body = Whole c.before c.after }

-- The record that an edit makes, over the paths that it changed on balance.
abbrev pub made : State → Edit → List Change → Record
made s edit changes = record {
  id = s.next_id;
  origin = s.next_id;
  label = edit.label;
  splits = all_edit_texts edit.operations;
  done = true;
  parts = map part_of changes;
}

abbrev pub push_of : State → Edit → List Change → List Effect
push_of s edit changes = if is_some_of changes then Push (made s edit changes) ∷ [] else []

-- The futures of the changed paths are dropped, then the new record comes, then versions rise.
abbrev pub edit_effects : State → Edit → Performed → List Effect
edit_effects s edit done =
    map (λ p. Drop p Incompatible) (filter (has_future s.records) (map (λ c. c.path) done.changes))
    ++ (push_of s edit done.changes ++ map (λ b. Bump b.path b.number) done.bumps)

-- The first limit that the state to come passes.
abbrev pub edit_hit : Limits → State → Option Hit
edit_hit limits next = option_or (serial_hit limits next) (option_or (known_hit limits next) (weight_hit limits next))

-- Where nothing is recorded the state stays. Where a limit would be passed too, and no operation is named then.
abbrev pub performed_outcome : Limits → State → Edit → Performed → Outcome
performed_outcome limits s edit done =
    let effects = edit_effects s edit done in
    let next = state_after s effects in
    let element = if is_some_of done.changes then Some s.next_id else None in
    if is_some_of effects then
    option_map_or (λ hit. stays (answers.Edit [] None None (Some hit) done.skipped)) (edit_hit limits next)
    (records effects (answers.Edit (numbered next (map (λ b. b.path) done.bumps)) element done.failed None done.skipped))
    else stays (answers.Edit [] None done.failed None done.skipped)

abbrev pub edit_outcome : Limits → State → (by : ℕ) → Edit → Outcome
edit_outcome limits s by edit = performed_outcome limits s edit (performed s.files s.versions s.locks limits by edit)
