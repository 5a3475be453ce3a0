use Rattle.std.proofs.Common.{sym, subst}
use Rattle.wse_element.specs.State.{State}
use Rattle.wse_history.specs.Outcome.{stays}
use Rattle.wse_history.specs.Planning.{PlansAsOutcome}
use Rattle.wse_history.specs.declared.planned.Planned.{Planned}
use Rattle.wse_history.proofs.PlainLemmas.{stays_plans}
use Rattle.wse_history.proofs.plans.stays.Goals as goal

pub returns-clause-planned : goal.returns-clause-planned
returns-clause-planned c = subst (λ (p : Planned). (s : State) → PlansAsOutcome s (stays c.args.answer) p) (sym c.unrecorded.ensures) (stays_plans c.args.answer)
