use Rattle.std.proofs.Common.{ℕ, ◌<◌, ◌≤◌, ◌^◌, ◌%◌, arith}
use Rattle.std.proofs.Math.Nat.{pow-le-pow_right, one-le-pow}
use Rattle.wse_disk.proofs.fate.fate_at.Goals as goal

largest : 3 ^ 39 < 2 ^ 64
largest = omega arith

small : (k : ℕ) → k < 40 → 3 ^ k < 2 ^ 64
small k lt =
    let some : 0 < 3 = omega arith in
    let below : k ≤ 39 = omega arith in
    let most : 3 ^ k ≤ 3 ^ 39 = pow-le-pow_right {n = 3} some {i = k} {j = 39} below in
    omega (arith, most, largest)

pub pow-requires : goal.pow-requires
pow-requires c = small (c.args.index % 40) (omega arith)

pub nonzero_div-digit : goal.nonzero_div-digit
nonzero_div-digit c = omega (arith, one-le-pow (c.args.index % 40) 3 (omega arith), c.pow.ensures)
