use Rattle.std.proofs.Common.{◌≡◌, drop}
use Rattle.wse_slow_history.specs.Slow.{state_of}
use Rattle.wse_slow_history.specs.After.{after_effects}
use Rattle.wse_slow_history.proofs.after.after_effects.Given as goal

abbrev pub invariant-loop-effect : goal.invariant-loop-effect
invariant-loop-effect l = after_effects (state_of l.last) (drop l.effect-index l.effects) ≡ after_effects (state_of l.initial.last) l.effects
