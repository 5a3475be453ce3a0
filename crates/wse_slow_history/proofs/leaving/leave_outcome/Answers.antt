use Rattle.std.proofs.Common.{◌∙◌}
use Rattle.wse_history.proofs.ShareLemmas.{leave_left}
use Rattle.wse_slow_history.specs.Slow.{state_of}
use Rattle.wse_slow_history.proofs.leaving.leave_outcome.Goals as goal

pub returns : goal.returns
returns c =
    c.locks_as.ensures ∙ leave_left (state_of c.args.state.now) c.args.by c.in_ok-locks.locks c.leave.new.self c.in_ok-locks.ensures c.leave.ensures
