use Rattle.std.proofs.Common.{◌≡◌, true, take}
use Rattle.std.specs.List.{list_all}
use Rattle.wse_plain.specs.Fit.{fit_at}
use Rattle.wse_plain.proofs.linked.fit_at_each.Given as goal

abbrev pub invariant-loop-part : goal.invariant-loop-part
invariant-loop-part l = list_all (λ part. fit_at l.records part.path) (take l.part-index l.parts) ≡ true
