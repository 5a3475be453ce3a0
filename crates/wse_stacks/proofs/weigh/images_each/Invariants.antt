use Rattle.std.proofs.Common.{◌≡◌, take}
use Rattle.wse_stacks.specs.Weigh.{images_each}
use Rattle.wse_stacks.proofs.weigh.images_each.Given as goal

abbrev pub invariant-loop-effect : goal.invariant-loop-effect
invariant-loop-effect l = l.left ≡ images_each (take l.effect-index l.effects) l.fn.records
