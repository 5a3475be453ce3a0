use Rattle.std.proofs.Common.{◌≡◌, map, take, filter}
use Rattle.wse_element.specs.declared.state.PartState.TheVariants.{Incompatible}
use Rattle.wse_element.specs.declared.effect.Effect.TheVariants.{Drop}
use Rattle.wse_element.specs.Applicable.{has_future}
use Rattle.wse_slow_history.proofs.effects.drops.Given as goal

abbrev pub invariant-loop-change : goal.invariant-loop-change
invariant-loop-change l = l.effects.items ≡ map (λ p. Drop p Incompatible) (filter (has_future l.elements) (map (λ c. c.path) (take l.change-index l.changes)))
