use Rattle.std.proofs.Common.{◌≡◌, ◌++◌, take}
use Rattle.wse_history.specs.Moving.{closings}
use Rattle.wse_history.proofs.closes.push_closings.Given as goal

abbrev pub invariant-loop-path : goal.invariant-loop-path
invariant-loop-path l = l.effects.items ≡ l.initial.effects.items ++ closings (take l.path-index l.paths)
