use Rattle.std.proofs.Common.{◌≡◌, take}
use Rattle.wse_element.specs.Effects.{marked}
use Rattle.wse_plain.proofs.moves.marked.Given as goal

abbrev pub invariant-loop-element : goal.invariant-loop-element
invariant-loop-element l = l.all.items ≡ marked (take l.element-index l.records) l.id l.done
