use Rattle.std.proofs.Common.{◌≡◌, take}
use Rattle.wse_element.specs.Split.{split}
use Rattle.wse_plain.proofs.moves.split.Given as goal

abbrev pub invariant-loop-element : goal.invariant-loop-element
invariant-loop-element l = l.all.items ≡ split (take l.element-index l.records) l.id l.first
