use Rattle.std.proofs.Common.{◌≡◌, drop}
use Rattle.wse_element.specs.Stacks.{ids}
use Rattle.wse_element.specs.Linked.{are_different}
use Rattle.wse_plain.proofs.linked.are_different.Given as goal

abbrev pub invariant-loop-at : goal.invariant-loop-at
invariant-loop-at l = are_different (ids l.records) ≡ are_different (ids (drop l.at l.records))
