use Rattle.std.proofs.Common.{◌≡◌, false, take}
use Rattle.std.specs.List.{list_any}
use Rattle.wse_element.specs.Applicable.{sets_tree}
use Rattle.wse_recover.proofs.sets.sets_of.Given as goal

abbrev pub invariant-loop-at : goal.invariant-loop-at
invariant-loop-at l = list_any sets_tree (take l.at l.effects) ≡ false
