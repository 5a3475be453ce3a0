use Rattle.std.proofs.Common.{◌≡◌, not, drop}
use Rattle.wse_element.specs.Live.{is_valid_at}
use Rattle.wse_element.specs.Linked.{come_first}
use Rattle.wse_plain.proofs.linked.invalid_first.Given as goal

abbrev pub invariant-loop-at : goal.invariant-loop-at
invariant-loop-at l = come_first (λ r. not (is_valid_at l.path r)) l.records ≡ come_first (λ r. not (is_valid_at l.path r)) (drop l.at l.records)
