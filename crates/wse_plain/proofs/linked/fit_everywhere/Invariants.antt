use Rattle.std.proofs.Common.{◌≡◌, true, take}
use Rattle.std.specs.List.{list_all}
use Rattle.wse_plain.specs.Fit.{fit_at}
use Rattle.wse_plain.proofs.linked.fit_everywhere.Given as goal

abbrev pub invariant-loop-element : goal.invariant-loop-element
invariant-loop-element l = list_all (λ r. list_all (λ part. fit_at l.records part.path) r.parts) (take l.element-index l.records) ≡ true
