use Rattle.std.proofs.Common.{◌≡◌, take}
use Rattle.wse_element.specs.Stacks.{future}
use Rattle.wse_plain.proofs.stacks.future.Given as goal

abbrev pub invariant-loop-element : goal.invariant-loop-element
invariant-loop-element l = l.all.items ≡ future (take l.element-index l.records) l.path
