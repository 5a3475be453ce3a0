use Rattle.std.proofs.Common.{◌≡◌, ◌++◌, take}
use Rattle.wse_history.specs.Plans.{drops_at}
use Rattle.wse_history.proofs.effects.push_drops.Given as goal

abbrev pub invariant-loop-change : goal.invariant-loop-change
invariant-loop-change l = l.effects.items ≡ l.initial.effects.items ++ drops_at l.stacks.state.records (take l.change-index l.changes)
