-- What an edit is performed against, beside the tree.
use Rattle.std.specs.Prelude.{ℕ}
use Rattle.wse_path.specs.Versions.{Numbers}
use Rattle.wse_path.specs.declared.limits.Limits.{Limits}
use Rattle.wse_path.specs.declared.position.Encoding.{Encoding}
use Rattle.wse_locks.specs.Locks.{Holders}

-- The versions from before the edit, the locks, the limits, the participant whose edit it is, and what the edit's
-- characters count.
pub record SettingState : Type 0 where
  pub versions : Numbers
  pub locks : Holders
  pub limits : Limits
  pub by : ℕ
  pub encoding : Encoding
