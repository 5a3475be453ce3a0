-- When a last record isn't finished.
use Rattle.std.specs.Prelude.{◌≡◌, ◌≤◌, ℕ, Result, IsErrOf}
use Rattle.wse_path.specs.Causes.{Rose}
use Rattle.wse_recover.specs.declared.fault.Unfinished.{Unfinished}
use Rattle.wse_recover.specs.declared.fault.Unfinished.TheVariants.{Disk}

-- The count of faults of the disk never falls. It rose where the disk failed, and else it is as it was.
pub record HasFinishCause {T : Type 0} (before now : ℕ) (result : Result T Unfinished) : Type 0 where
  pub later : before ≤ now
  pub failed : IsErrOf result Disk → Rose before now
  pub kept : (IsErrOf result Disk → ⊥) → now ≡ before
