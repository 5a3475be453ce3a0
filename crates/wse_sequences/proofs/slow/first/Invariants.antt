use Rattle.wse_path.specs.Limits.{standard}
use Rattle.wse_history.specs.History.{IsHistory}
use Rattle.wse_slow_history.specs.Slow.{state_of}
use Rattle.wse_sequences.proofs.slow.first.Given as goal

abbrev pub invariant-loop-command : goal.invariant-loop-command
invariant-loop-command l = IsHistory (state_of l.state) standard
