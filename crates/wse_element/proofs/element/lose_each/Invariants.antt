use Rattle.std.proofs.Common.{◌≡◌, ◌++◌, take, drop, map}
use Rattle.wse_element.specs.Losses.{part_lost_at}
use Rattle.wse_element.proofs.element.lose_each.Given as goal

abbrev pub invariant-loop-part : goal.invariant-loop-part
invariant-loop-part l = l.parts ≡ map (part_lost_at l.path l.state) (take l.part-index l.initial.parts) ++ drop l.part-index l.initial.parts
