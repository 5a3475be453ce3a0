use Rattle.std.proofs.Common.{◌≡◌, map, take}
use Rattle.wse_stacks.proofs.remembered.Remembered.of.Given as goal

abbrev pub invariant-loop-effect : goal.invariant-loop-effect
invariant-loop-effect l = map (λ s. s.value) l.all.items ≡ take l.effect-index l.effects
