use Rattle.std.proofs.Common.{ap, ◌∙◌}
use Rattle.wse_history.specs.Locking.{lock_outcome}
use Rattle.wse_history.proofs.ShareLemmas.{lock_taken, lock_held}
use Rattle.wse_slow_history.specs.Slow.{state_of}
use Rattle.wse_slow_history.proofs.locking.lock_outcome.Goals as goal

pub returns-in-Ok : goal.returns-in-Ok
returns-in-Ok c =
    let s = state_of c.args.state.now in
    c.locks_as.ensures
    ∙ lock_taken s c.args.by c.as_slice.result.now c.in_ok-locks.locks c.take.new.self c.in_ok-locks.ensures c.in-Ok.ensures.free c.in-Ok.ensures.taken
    ∙ ap (lock_outcome s c.args.by) c.as_slice.ensures

pub returns-in-Err-Held : goal.returns-in-Err-Held
returns-in-Err-Held c =
    let s = state_of c.args.state.now in
    let held = rw c.in-Err-Held.field-0-is at c.in-Err-Held.ensures.held in
    c.stays.ensures
    ∙ lock_held s c.args.by c.as_slice.result.now c.in-Err-Held.files c.in_ok-locks.locks c.in_ok-locks.ensures held.0 held.1
    ∙ ap (lock_outcome s c.args.by) c.as_slice.ensures
