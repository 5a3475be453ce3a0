use Rattle.std.proofs.Common.{◌≡◌, ◌++◌, take, drop, map}
use Rattle.wse_element.specs.Losses.{part_invalid_at}
use Rattle.wse_element.proofs.element.invalidate_each.Given as goal

abbrev pub invariant-loop-part : goal.invariant-loop-part
invariant-loop-part l = l.parts ≡ map (part_invalid_at l.path) (take l.part-index l.initial.parts) ++ drop l.part-index l.initial.parts
