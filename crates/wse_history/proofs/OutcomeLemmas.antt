-- What any command records may come.
use Rattle.std.proofs.Common.{◌≡◌, ◌≢◌, ℕ, Bool, true, false, List, [], map, Option, Some, None, refl, ap, ◌∙◌}
use Rattle.std.specs.Prelude.{not, find, if◌then◌else◌}
use Rattle.std.specs.Option.{option_map_or}
use Rattle.wse_path.specs.Path.{Path}
use Rattle.wse_path.specs.declared.command.Command.TheVariants.{Edit, Move, Lock, Unlock, Leave, Outside, Forget, Look}
use Rattle.wse_path.specs.declared.edit.Edit.{Edit as EditValue}
use Rattle.wse_path.specs.declared.limits.Hit.{Hit}
use Rattle.wse_path.specs.declared.limits.Limits.{Limits}
use Rattle.wse_locks.specs.Locks.{holds, held}
use Rattle.wse_element.specs.declared.effect.Effect.{Effect}
use Rattle.wse_element.specs.State.{State}
use Rattle.wse_element.specs.Effects.{state_after}
use Rattle.wse_apply.specs.Limit.{limit_hit}
use Rattle.wse_apply.specs.Setting.{SettingState}
use Rattle.wse_apply.specs.Performed.{performed}
use Rattle.wse_apply.specs.declared.performed.Performed.{Performed}
use Rattle.wse_history.specs.declared.answer.Answer.{Answer}
use Rattle.wse_history.specs.declared.answer.Answer.TheVariants as answers
use Rattle.wse_history.specs.Outcome.{Outcome, stays, records, locks_as, is_some_of, numbered}
use Rattle.wse_history.specs.Edits.{edit_effects, edit_hit, performed_outcome, edit_outcome}
use Rattle.wse_history.specs.Locking.{given_each}
use Rattle.wse_history.specs.Unlocking.{freed_each}
use Rattle.wse_history.specs.History.{IsHistory}
use Rattle.wse_history.specs.Laws.{MayApply, OutcomesMayApply}
use Rattle.wse_history.specs.Done.{IsDoneWithin}
use Rattle.wse_history.proofs.ReachedLemmas.{is_done}
use Rattle.wse_history.proofs.EditLemmas.{edits_come}
use Rattle.wse_history.proofs.ShapeLemmas.{none_is_zero}
use Rattle.wse_history.proofs.UndoLemmas.{moves_apply}
use Rattle.wse_history.proofs.ReportLemmas.{outsides_apply, forgets_apply}

-- effects are recorded where no limit is passed, and none else
recorded : (P : List Effect → Type 0) (b : Bool) (hit : Option Hit) (es : List Effect) (refused : Hit → Answer) (done other : Answer) → (hit ≡ None → es ≢ [] → P es)
    → (if b then option_map_or (λ h. stays (refused h)) hit (records es done) else stays other).effects ≢ []
    → P (if b then option_map_or (λ h. stays (refused h)) hit (records es done) else stays other).effects
recorded P true None es refused done other given some = given refl some
recorded P true (Some hit) es refused done other given some = absurd (some refl)
recorded P false hit es refused done other given some = absurd (some refl)

pub by_outcome : (P : List Effect → Type 0) (limits : Limits) (s : State) (edit : EditValue) (done : Performed)
    → (edit_hit limits (state_after s (edit_effects s edit done)) ≡ None → edit_effects s edit done ≢ [] → P (edit_effects s edit done))
    → (performed_outcome limits s edit done).effects ≢ [] → P (performed_outcome limits s edit done).effects
by_outcome P limits s edit done given some =
    let effects = edit_effects s edit done in
    let next = state_after s effects in
    let element = if is_some_of done.changes then Some s.next_id else None in
    recorded P (is_some_of effects) (edit_hit limits next) effects (λ hit. answers.Edit [] None None (Some hit) done.skipped)
    (answers.Edit (numbered next (map (λ b. b.path) done.bumps)) element done.failed None done.skipped)
    (answers.Edit [] None done.failed None done.skipped) given some

pub edits_apply : (limits : Limits) (s : State) (by : ℕ) (edit : EditValue) → IsHistory s limits → (edit_outcome limits s by edit).effects ≢ [] → MayApply limits s (edit_outcome limits s by edit).effects
edits_apply limits s by edit history some =
    let setting : SettingState = record { versions = s.versions; locks = s.locks; limits = limits; by = by; encoding = edit.encoding } in
    let done = performed s.files s.versions s.locks limits by edit in
    let d : IsDoneWithin limits s.files done = is_done setting s.files edit history.linked.tree history.fits in
    by_outcome (MayApply limits s) limits s edit done
    (λ none are.
    let right = edits_come limits s edit done (record { linked = history.linked; parts = history.parts }) history.within d.is are none in
    record {
      applicable = right.applicable;
      state = record {
        linked = right.linked;
        parts = right.parts;
        told = none_is_zero (state_after s (edit_effects s edit done)).versions right.linked.kept.some;
        within = history.within;
        fits = ap (limit_hit limits) right.files ∙ d.fits;
      };
    })
    some

-- commands on locks record nothing
none_by : (b : Bool) (one other : Outcome) → one.effects ≡ [] → other.effects ≡ [] → (if b then one else other).effects ≡ []
none_by true one other e f = e
none_by false one other e f = f

none_held : (o : Option Path) (other : Outcome) → other.effects ≡ [] → (option_map_or (λ p. stays (answers.NotHeld p)) o other).effects ≡ []
none_held None other e = e
none_held (Some p) other e = refl

pub outcomes_apply : OutcomesMayApply
outcomes_apply limits s (Edit by edit) history some = edits_apply limits s by edit history some
outcomes_apply limits s (Move by direction p choice) history some = moves_apply limits s by direction p choice history some
outcomes_apply limits s (Lock by files) history some =
    absurd (some (none_by (is_some_of (held s.locks by files)) (stays (answers.Held (held s.locks by files))) (locks_as (given_each by files s.locks) answers.Taken) refl refl))
outcomes_apply limits s (Unlock by files) history some =
    absurd (some (none_held (find (λ p. not (holds s.locks by p)) files) (locks_as (freed_each files s.locks) answers.Freed) refl))
outcomes_apply limits s (Leave by) history some = absurd (some refl)
outcomes_apply limits s (Outside p bytes) history some = outsides_apply limits s p bytes history some
outcomes_apply limits s (Forget p) history some = forgets_apply limits s p history some
outcomes_apply limits s (Look p) history some = absurd (some refl)
