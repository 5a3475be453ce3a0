-- What reads of an area give, and why they fail.
use Rattle.std.specs.Prelude.{◌≡◌, ℕ, ◌+◌, ◌≤◌, slice_index, slice_range, Option, Result, IsErrOf}
use Rattle.std.specs.Int.{w32, to_be_bytes}
use Rattle.wse_path.specs.Causes.{Rose}
use Rattle.wse_disk.specs.declared.area.Area.{Area}
use Rattle.wse_disk.specs.declared.disk.ReadErr.{ReadErr}
use Rattle.wse_disk.specs.declared.disk.ReadErr.TheVariants as errors
use Rattle.wse_disk.specs.declared.disk.ReadErr.TheVariants.{Failed}
use Rattle.wse_disk.specs.Reading.{area_of}
use Rattle.wse_disk.specs.Standing.{Standing}
use Rattle.wse_disk.specs.Told.{WhereTold}
use Rattle.wse_log.specs.declared.step.ScanFault.{ScanFault}
use Rattle.wse_log.specs.declared.step.ScanFault.TheVariants.{Disk, Memory}

-- This is the area's byte at the place.
abbrev pub ReadsByte : Option Standing → Area → ℕ → ℕ → Type 0
ReadsByte told area place byte = WhereTold told (λ s. slice_index (area_of area s.reading) place ≡ byte)

-- This is the number in the area's four bytes from the place on, big-endian.
abbrev pub ReadsNumber : Option Standing → Area → ℕ → ℕ → Type 0
ReadsNumber told area place number = WhereTold told (λ s. to_be_bytes w32 number ≡ slice_range (area_of area s.reading) place (place + 4))

abbrev pub scan_fault_of : ReadErr → ScanFault
scan_fault_of Failed = Disk
scan_fault_of errors.Memory = Memory

-- The count of faults of the disk never falls. It rose where the disk failed, and else it is as it was.
pub record HasScanCause {T : Type 0} (before now : ℕ) (result : Result T ScanFault) : Type 0 where
  pub later : before ≤ now
  pub failed : IsErrOf result Disk → Rose before now
  pub kept : (IsErrOf result Disk → ⊥) → now ≡ before
