use Rattle.std.proofs.Common.{◌≡◌, ◌≤◌, ◌++◌, length, take, drop, not, nat_eq}
use Rattle.std.specs.Prelude.{filter}
use Rattle.wse_locks.proofs.locks.leave_all.Given as goal

abbrev pub invariant-loop-at : goal.invariant-loop-at
invariant-loop-at l = record {
  within : l.at ≤ length l.initial.map.entries;
  left : l.map.entries ≡ take l.at l.initial.map.entries ++ filter (λ e. not (nat_eq e.1 l.by)) (drop l.at l.initial.map.entries);
}

abbrev pub decreases-loop-at : goal.decreases-loop-at
decreases-loop-at l = l.at
