use Rattle.std.proofs.Common.{◌≡◌, drop}
use Rattle.wse_element.specs.Linked.{come_first}
use Rattle.wse_plain.proofs.linked.done_first.Given as goal

abbrev pub invariant-loop-at : goal.invariant-loop-at
invariant-loop-at l = come_first (λ r. r.done) l.records ≡ come_first (λ r. r.done) (drop l.at l.records)
