use Rattle.std.proofs.Common.{◌≡◌, take}
use Rattle.wse_path.specs.PathMap.{capped}
use Rattle.wse_element.specs.Weight.{weight}
use Rattle.wse_stacks.specs.Weigh.{images_each}
use Rattle.wse_stacks.proofs.weigh.all_left.Given as goal

abbrev pub invariant-loop-entry : goal.invariant-loop-entry
invariant-loop-entry l = l.sum ≡ capped (weight (images_each l.effects (take l.entry-index l.entries)))
