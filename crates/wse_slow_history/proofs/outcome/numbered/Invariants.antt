use Rattle.std.proofs.Common.{◌≡◌, take}
use Rattle.wse_history.specs.Outcome.{numbered}
use Rattle.wse_slow_history.specs.Slow.{state_of}
use Rattle.wse_slow_history.proofs.outcome.numbered.Given as goal

abbrev pub invariant-loop-path : goal.invariant-loop-path
invariant-loop-path l = l.all.items ≡ numbered (state_of l.state) (take l.path-index l.paths)
