use Rattle.std.proofs.Common.{◌≡◌, map, take}
use Rattle.wse_history.specs.Edits.{part_of}
use Rattle.wse_slow_history.proofs.effects.parts_of.Given as goal

abbrev pub invariant-loop-change : goal.invariant-loop-change
invariant-loop-change l = l.parts.items ≡ map part_of (take l.change-index l.changes)
