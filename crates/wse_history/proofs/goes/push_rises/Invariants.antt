use Rattle.std.proofs.Common.{◌≡◌, ◌++◌, take}
use Rattle.wse_history.specs.Moving.{paths_of}
use Rattle.wse_history.specs.Outcome.{bump_each}
use Rattle.wse_history.proofs.goes.push_rises.Given as goal

abbrev pub invariant-loop-part : goal.invariant-loop-part
invariant-loop-part l = l.effects.items ≡ l.initial.effects.items ++ bump_each (paths_of (take l.part-index l.parts))
