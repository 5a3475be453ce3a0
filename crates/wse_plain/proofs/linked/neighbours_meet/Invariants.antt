use Rattle.std.proofs.Common.{◌≡◌, ◌-◌, drop}
use Rattle.wse_element.specs.Linked.{neighbours_meet}
use Rattle.wse_plain.proofs.linked.neighbours_meet.Given as goal

abbrev pub invariant-loop-at : goal.invariant-loop-at
invariant-loop-at l = neighbours_meet l.path l.records ≡ neighbours_meet l.path (drop (l.at - 1) l.records)
