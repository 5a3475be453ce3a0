use Rattle.std.proofs.Common.{◌≡◌, take}
use Rattle.wse_element.specs.Losses.{without_dead}
use Rattle.wse_plain.proofs.losses.without_dead.Given as goal

abbrev pub invariant-loop-element : goal.invariant-loop-element
invariant-loop-element l = l.all.items ≡ without_dead (take l.element-index l.records)
