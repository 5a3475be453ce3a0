use Rattle.std.proofs.Common.{◌≡◌, take, map}
use Rattle.wse_apply.proofs.kept.bumps_by.Given as goal

abbrev pub invariant-loop-change : goal.invariant-loop-change
invariant-loop-change l = l.bumps.items ≡ map (λ c. record { path = c.path; number = l.rise }) (take l.change-index l.changes)
