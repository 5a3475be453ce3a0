use Rattle.std.proofs.Common.{◌≡◌, ◌∷◌, take}
use Rattle.wse_history.specs.Moves.{move_effect}
use Rattle.wse_history.specs.Outcome.{bump_each}
use Rattle.wse_slow_history.proofs.course.moving.Given as goal

abbrev pub invariant-loop-path : goal.invariant-loop-path
invariant-loop-path l = l.effects.items ≡ move_effect l.fn.direction l.id ∷ bump_each (take l.path-index l.paths)
