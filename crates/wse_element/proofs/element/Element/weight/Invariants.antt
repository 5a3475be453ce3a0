use Rattle.std.proofs.Common.{◌≡◌, sum_by, take}
use Rattle.wse_path.specs.PathMap.{capped}
use Rattle.wse_element.specs.Weight.{part_weight}
use Rattle.wse_element.proofs.element.Element.weight.Given as goal

abbrev pub invariant-loop-part : goal.invariant-loop-part
invariant-loop-part l = l.sum ≡ capped (sum_by (part_weight l.self.label) (take l.part-index l.part-items))
