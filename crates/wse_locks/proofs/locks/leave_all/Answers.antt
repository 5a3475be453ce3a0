use Rattle.std.proofs.Common.{◌≡◌, ℕ, ◌+◌, ◌-◌, ◌++◌, take, drop, not, nat_eq, ap, ◌∙◌, arith}
use Rattle.std.specs.Prelude.{filter}
use Rattle.wse_path.specs.Path.{Path}
use Rattle.wse_locks.proofs.LockLemmas.{left_more}
use Rattle.wse_locks.proofs.locks.leave_all.Goals as goal

pub loop-at-preserved : goal.loop-at-preserved
loop-at-preserved c =
    let inv = c.loop-at.invariant in
    let old = c.args.map.now.entries in
    let same : c.loop-at.at ≡ (c.loop-at.at - 1) + 1 = omega arith in
    record {
      within = omega arith;
      left =
          left_more old c.loop-at.map.entries c.leave_at.new.map.entries c.args.by (c.loop-at.at - 1) (omega arith)
          (inv.left ∙ ap (λ n. take n old ++ filter (λ (e : Path × ℕ). not (nat_eq e.1 c.args.by)) (drop n old)) same) c.leave_at.ensures;
    }
