-- When a call that may also lack memory answers a failure.
use Rattle.std.specs.Prelude.{◌≡◌, ℕ, ◌≤◌, Result, OnOk, IsErrOf}
use Rattle.wse_path.specs.Causes.{Rose}
use Rattle.wse_disk.specs.declared.disk.ReadErr.{ReadErr}
use Rattle.wse_disk.specs.declared.disk.ReadErr.TheVariants.{Failed, Memory}

-- The count of faults never falls: a failure raised it, and without one it is as it was.
pub record HasReadCause {T : Type 0} (before now : ℕ) (result : Result T ReadErr) : Type 0 where
  pub later : before ≤ now
  pub kept : OnOk result (now ≡ before)
  pub starved : IsErrOf result Memory → now ≡ before
  pub failed : IsErrOf result Failed → Rose before now
