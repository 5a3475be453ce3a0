-- Sums that end at the largest number of 64 bits.
use Rattle.std.proofs.Common.{◌≡◌, ℕ, ◌+◌, ◌-◌, ◌^◌, ◌<◌, ◌≤◌, min, arith}
use Rattle.wse_path.specs.PathMap.{capped}

-- one more is counted
pub capped_more : (sum a b : ℕ) → sum ≡ capped a → min (sum + b) (2 ^ 64 - 1) ≡ capped (a + b)
capped_more sum a b e = omega arith

-- what is gone is part of a sum below the end
pub gone_within : (sum a gone : ℕ) → sum ≡ capped (a + gone) → sum < 2 ^ 64 - 1 → gone ≤ sum
gone_within sum a gone e l = omega arith

pub capped_less : (sum a gone : ℕ) → sum ≡ capped (a + gone) → sum < 2 ^ 64 - 1 → sum - gone ≡ capped a
capped_less sum a gone e l = omega arith
