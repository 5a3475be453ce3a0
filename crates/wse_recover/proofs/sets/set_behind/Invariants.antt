use Rattle.std.proofs.Common.{◌≡◌, take}
use Rattle.wse_element.specs.Effects.{after_each}
use Rattle.wse_recover.specs.Sets.{meant}
use Rattle.wse_recover.proofs.sets.set_behind.Given as goal

abbrev pub invariant-loop-at : goal.invariant-loop-at
invariant-loop-at l = meant l.before l.effect l.elements.items ≡ meant l.before l.effect (after_each l.stacks.state (take l.at l.before)).records
