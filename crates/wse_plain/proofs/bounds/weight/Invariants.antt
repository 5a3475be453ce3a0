use Rattle.std.proofs.Common.{◌≡◌, take}
use Rattle.wse_path.specs.PathMap.{capped}
use Rattle.wse_element.specs.Weight.{weight}
use Rattle.wse_plain.proofs.bounds.weight.Given as goal

abbrev pub invariant-loop-element : goal.invariant-loop-element
invariant-loop-element l = l.sum ≡ capped (weight (take l.element-index l.records))
