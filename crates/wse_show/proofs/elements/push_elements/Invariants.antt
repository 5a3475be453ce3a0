use Rattle.std.proofs.Common.{◌≡◌, ◌++◌, take, flat_map}
use Rattle.wse_show.specs.Elements.{element_line}
use Rattle.wse_show.proofs.elements.push_elements.Given as goal

abbrev pub invariant-loop-index : goal.invariant-loop-index
invariant-loop-index l = l.text.items ≡ l.initial.text.items ++ flat_map element_line (take l.index l.stacks.state.records)
