-- What an edit is planned as. This project's own rule.
use Rattle.std.specs.Prelude.{ℕ, List, [], ◌∷◌, Option, Some, None, if◌then◌else◌}
use Rattle.std.specs.List.{flat_map}
use Rattle.wse_path.specs.Path.{Path}
use Rattle.wse_path.specs.declared.change.Change.{Change}
use Rattle.wse_path.specs.declared.change.Numbered.{Numbered}
use Rattle.wse_path.specs.declared.limits.Hit.{Hit}
use Rattle.wse_element.specs.declared.state.PartState.TheVariants.{Incompatible}
use Rattle.wse_element.specs.declared.effect.Effect.{Effect}
use Rattle.wse_element.specs.declared.effect.Effect.TheVariants.{Drop}
use Rattle.wse_element.specs.Record.{Record}
use Rattle.wse_element.specs.Applicable.{has_future}
use Rattle.wse_apply.specs.declared.reason.Reason.{Reason}
use Rattle.wse_apply.specs.declared.skips.Skip.{Skip}
use Rattle.wse_apply.specs.declared.performed.Performed.{Performed}
use Rattle.wse_history.specs.declared.answer.Answer.TheVariants.{Edit}
use Rattle.wse_history.specs.declared.planned.Planned.{Planned}
use Rattle.wse_history.specs.Outcome.{is_some_of}

-- The drop of a path's future, where it has one.
abbrev pub drop_at : List Record → Path → List Effect
drop_at records p = if has_future records p then Drop p Incompatible ∷ [] else []

abbrev pub drops_at : List Record → List Change → List Effect
drops_at records changes = flat_map (λ c. drop_at records c.path) changes

-- The id of the element that the changes make: none without changes.
abbrev pub element_of : ℕ → List Change → Option ℕ
element_of next_id changes = if is_some_of changes then Some next_id else None

-- Nothing is recorded.
abbrev pub left_alone : Option (ℕ × Reason) → Option Hit → List Skip → Planned
left_alone failed hit skipped = record {
  plan = record { effects = []; changes = [] };
  locks = None;
  answer = Edit [] None failed hit skipped;
}

-- The effects are recorded, by which these paths have these versions.
abbrev pub recorded_as : ℕ → Performed → List Effect → List Numbered → Planned
recorded_as next_id done effects changed = record {
  plan = record { effects = effects; changes = done.changes };
  locks = None;
  answer = Edit changed (element_of next_id done.changes) done.failed None done.skipped;
}
