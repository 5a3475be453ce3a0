use Rattle.std.proofs.Common.{◌≡◌, take}
use Rattle.wse_plain.proofs.stacks.copies.Given as goal

abbrev pub invariant-loop-element : goal.invariant-loop-element
invariant-loop-element l = l.all.items ≡ take l.element-index l.records
