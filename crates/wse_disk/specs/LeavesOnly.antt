-- What a stretch of calls leaves.
use Rattle.std.specs.Prelude.{◌⊎◌, ℕ, ◌≤◌, Option}
use Rattle.wse_disk.specs.Reading.{Reading}
use Rattle.wse_disk.specs.Standing.{Standing}
use Rattle.wse_disk.specs.Told.{LeftSince, moment_told}

-- A crash at any moment since the old one leaves what has the property. What a crash since an earlier moment might have
-- left it might have left before the stretch too, or it has the property.
pub record LeavesOnly (old new : Option Standing) (P : Reading → Type 0) : Type 0 where
  pub later : moment_told old ≤ moment_told new
  pub each : (image : Reading) → LeftSince new (moment_told old) image → P image
  pub before : (moment : ℕ) (image : Reading) → moment ≤ moment_told old → LeftSince new moment image → LeftSince old moment image ⊎ P image
