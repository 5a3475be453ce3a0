use Rattle.std.proofs.Common.{◌≡◌, take}
use Rattle.wse_recover.specs.Sets.{meant}
use Rattle.wse_recover.proofs.sets.meant.Given as goal

abbrev pub invariant-loop-at : goal.invariant-loop-at
invariant-loop-at l = l.all.items ≡ meant l.before l.effect (take l.at l.stacks.state.records)
