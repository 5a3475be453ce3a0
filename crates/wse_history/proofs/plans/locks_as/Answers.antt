use Rattle.std.proofs.Common.{sym, subst}
use Rattle.wse_element.specs.State.{State}
use Rattle.wse_history.specs.Outcome.{locks_as}
use Rattle.wse_history.specs.Planning.{PlansAsOutcome}
use Rattle.wse_history.specs.declared.planned.Planned.{Planned}
use Rattle.wse_history.proofs.PlainLemmas.{locks_plan}
use Rattle.wse_history.proofs.plans.locks_as.Goals as goal

pub returns-clause-planned : goal.returns-clause-planned
returns-clause-planned c = subst (λ (p : Planned). (s : State) → PlansAsOutcome s (locks_as c.args.locks.entries c.args.answer) p) (sym c.relocked.ensures) (locks_plan c.args.locks c.args.answer)
