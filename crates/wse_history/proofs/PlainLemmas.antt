-- Plans that record nothing, and plans that record effects.
use Rattle.std.proofs.Common.{◌≡◌, ◌≢◌, List, [], refl, sym, ap, ◌∙◌}
use Rattle.std.specs.Prelude.{if◌then◌else◌}
use Rattle.wse_path.specs.Changes.{changes_between}
use Rattle.wse_path.specs.declared.change.Change.{Change}
use Rattle.wse_path.specs.declared.limits.Limits.{Limits}
use Rattle.wse_path.proofs.GatheredLemmas.{no_changes}
use Rattle.wse_locks.specs.Locks.{LocksState}
use Rattle.wse_element.specs.declared.plan.Plan.{Plan}
use Rattle.wse_element.specs.declared.effect.Effect.{Effect}
use Rattle.wse_element.specs.State.{State}
use Rattle.wse_element.specs.Effects.{state_after}
use Rattle.wse_history.specs.declared.answer.Answer.{Answer}
use Rattle.wse_history.specs.Outcome.{stays, records, locks_as}
use Rattle.wse_history.specs.Planning.{PlansAsOutcome, MayRecordIfAny}
use Rattle.wse_history.specs.Plain.{unrecorded, relocked, recorded_with}
use Rattle.wse_history.proofs.PlanLemmas.{some_is}

pub stays_plans : (answer : Answer) (s : State) → PlansAsOutcome s (stays answer) (unrecorded answer)
stays_plans answer s = record {
  plan = record { effects = refl; changes = sym (no_changes s.files) };
  locks = refl;
  answer = refl;
}

pub locks_plan : (locks : LocksState) (answer : Answer) (s : State) → PlansAsOutcome s (locks_as locks.entries answer) (relocked locks answer)
locks_plan locks answer s = record {
  plan = record { effects = refl; changes = sym (no_changes s.files) };
  locks = refl;
  answer = refl;
}

pub none_may : (plan : Plan) → plan.effects ≡ [] → (limits : Limits) (s : State) → MayRecordIfAny limits s plan
none_may plan none limits s some = absurd (some none)

pub records_plan : (s : State) (effects : List Effect) (changes : List Change) (given answer : Answer) → effects ≢ [] → changes ≡ changes_between s.files (state_after s effects).files → given ≡ answer
    → PlansAsOutcome s (records effects answer) (recorded_with effects changes given)
records_plan s effects changes given answer some are same = record {
  plan = record {
    effects = refl;
    changes = are ∙ sym (ap (λ b. changes_between s.files (if b then state_after s effects else s).files) (some_is effects some));
  };
  locks = refl;
  answer = same;
}
