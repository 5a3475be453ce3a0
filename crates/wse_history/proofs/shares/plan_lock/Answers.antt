use Rattle.std.proofs.Common.{ap, subst, ◌∙◌}
use Rattle.wse_history.specs.Outcome.{Outcome}
use Rattle.wse_history.specs.Planning.{PlansAsOutcome}
use Rattle.wse_history.specs.Locking.{lock_outcome}
use Rattle.wse_history.proofs.ShareLemmas.{lock_taken, lock_held}
use Rattle.wse_history.proofs.shares.plan_lock.Goals as goal

pub returns-in-Ok-clause-planned : goal.returns-in-Ok-clause-planned
returns-in-Ok-clause-planned c =
    let s = c.args.history.now.state in
    subst (λ (o : Outcome). PlansAsOutcome s o c.locks_as.result)
    (lock_taken s c.args.by c.as_slice.result.now c.in_ok-locks.locks c.take.new.self (c.in_ok-locks.ensures ∙ c.locks.ensures) c.in-Ok.ensures.free c.in-Ok.ensures.taken
    ∙ ap (lock_outcome s c.args.by) c.as_slice.ensures)
    (c.locks_as.ensures.planned s)

pub returns-in-Ok-clause-may : goal.returns-in-Ok-clause-may
returns-in-Ok-clause-may c = c.locks_as.ensures.may c.args.history.now.limits c.args.history.now.state

pub returns-in-Err-Held-clause-planned : goal.returns-in-Err-Held-clause-planned
returns-in-Err-Held-clause-planned c =
    let s = c.args.history.now.state in
    let held = rw c.in-Err-Held.field-0-is at c.in-Err-Held.ensures.held in
    subst (λ (o : Outcome). PlansAsOutcome s o c.stays.result)
    (lock_held s c.args.by c.as_slice.result.now c.in-Err-Held.files c.in_ok-locks.locks (c.in_ok-locks.ensures ∙ c.locks.ensures) held.0 held.1
    ∙ ap (lock_outcome s c.args.by) c.as_slice.ensures)
    (c.stays.ensures.planned s)

pub returns-in-Err-Held-clause-may : goal.returns-in-Err-Held-clause-may
returns-in-Err-Held-clause-may c = c.stays.ensures.may c.args.history.now.limits c.args.history.now.state
