use Rattle.std.proofs.Common.{subst, ◌∙◌}
use Rattle.wse_history.specs.Outcome.{Outcome}
use Rattle.wse_history.specs.Planning.{PlansAsOutcome}
use Rattle.wse_history.proofs.ShareLemmas.{leave_left}
use Rattle.wse_history.proofs.shares.plan_leave.Goals as goal

pub returns-clause-planned : goal.returns-clause-planned
returns-clause-planned c =
    let s = c.args.history.now.state in
    subst (λ (o : Outcome). PlansAsOutcome s o c.locks_as.result)
    (leave_left s c.args.by c.in_ok-locks.locks c.leave.new.self (c.in_ok-locks.ensures ∙ c.locks.ensures) c.leave.ensures)
    (c.locks_as.ensures.planned s)

pub returns-clause-may : goal.returns-clause-may
returns-clause-may c = c.locks_as.ensures.may c.args.history.now.limits c.args.history.now.state
