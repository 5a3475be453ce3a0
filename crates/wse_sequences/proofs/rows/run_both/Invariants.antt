use Rattle.wse_history.specs.History.{IsHistory}
use Rattle.wse_slow_history.specs.Slow.{state_of}
use Rattle.wse_sequences.proofs.rows.run_both.Given as goal

abbrev pub invariant-loop-command : goal.invariant-loop-command
invariant-loop-command l = IsHistory (state_of l.state) l.limits
