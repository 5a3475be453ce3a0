use Rattle.std.proofs.Common.{◌≡◌, take}
use Rattle.wse_history.specs.Moves.{close_each}
use Rattle.wse_slow_history.proofs.course.close_each.Given as goal

abbrev pub invariant-loop-path : goal.invariant-loop-path
invariant-loop-path l = l.effects.items ≡ close_each l.elements (take l.path-index l.paths)
