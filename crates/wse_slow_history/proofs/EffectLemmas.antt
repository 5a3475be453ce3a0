-- The effects of an edit, one list behind the other.
use Rattle.std.proofs.Common.{◌≡◌, ◌++◌, ◌∙◌, List, map, ap, append_assoc}
use Rattle.std.specs.Prelude.{filter}
use Rattle.wse_path.specs.declared.change.Change.{Change}
use Rattle.wse_path.specs.declared.change.Numbered.{Numbered}
use Rattle.wse_path.specs.declared.edit.Edit.{Edit}
use Rattle.wse_element.specs.declared.state.PartState.TheVariants.{Incompatible}
use Rattle.wse_element.specs.declared.effect.Effect.{Effect}
use Rattle.wse_element.specs.declared.effect.Effect.TheVariants.{Drop, Bump}
use Rattle.wse_element.specs.Record.{Record}
use Rattle.wse_element.specs.State.{State}
use Rattle.wse_element.specs.Applicable.{has_future}
use Rattle.wse_apply.specs.declared.performed.Performed.{Performed}
use Rattle.wse_history.specs.Edits.{push_of, edit_effects}

abbrev pub drops_of : List Record → List Change → List Effect
drops_of records changes = map (λ p. Drop p Incompatible) (filter (has_future records) (map (λ c. c.path) changes))

abbrev bumps_of : List Numbered → List Effect
bumps_of bumps = map (λ b. Bump b.path b.number) bumps

pub effects_follow : (s : State) (edit : Edit) (done : Performed) (first second third : List Effect) → first ≡ drops_of s.records done.changes
    → second ≡ first ++ push_of s edit done.changes → third ≡ second ++ bumps_of done.bumps → third ≡ edit_effects s edit done
effects_follow s edit done first second third a b c =
    c ∙ ap (λ es. es ++ bumps_of done.bumps) (b ∙ ap (λ es. es ++ push_of s edit done.changes) a)
    ∙ append_assoc (drops_of s.records done.changes) (push_of s edit done.changes) (bumps_of done.bumps)
