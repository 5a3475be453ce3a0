-- Counts that rose.
use Rattle.std.proofs.Common.{◌⊎◌, inl, inr, ℕ, ◌≤◌, arith}
use Rattle.wse_path.specs.Causes.{Rose}

-- a count that rose at some time rose from before to after
pub rose_within : (a b c d : ℕ) → a ≤ b → Rose b c → c ≤ d → Rose a d
rose_within a b c d first rose last = omega arith

pub rose_either : (P : Type 0) (a b c : ℕ) → a ≤ b → b ≤ c → (P → Rose a b) → P ⊎ Rose b c → Rose a c
rose_either P a b c first last before (inl p) = let r = before p in omega arith
rose_either P a b c first last before (inr r) = omega arith
