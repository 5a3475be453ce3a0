-- What the making of a store leaves, and why it is refused.
use Rattle.std.specs.Prelude.{◌≡◌, ◌≤◌, ⊤, ℕ, Some, Option, Result, Ok, Err, IsErrOf}
use Rattle.wse_path.specs.Causes.{Rose}
use Rattle.wse_path.specs.declared.limits.Limits.{Limits}
use Rattle.wse_disk.specs.declared.disk.ReadErr.{ReadErr}
use Rattle.wse_disk.specs.declared.disk.ReadErr.TheVariants as reads
use Rattle.wse_disk.specs.Standing.{Standing}
use Rattle.wse_disk.specs.Told.{WhereTold}
use Rattle.wse_disk.specs.Calls.{Told}
use Rattle.wse_txn.specs.Stands.{StandsFor}
use Rattle.wse_recover.specs.Start.{fresh, start_hit}
use Rattle.wse_recover.specs.Measure.{TellsHit}
use Rattle.wse_recover.specs.Untouched.{IsUntouched}
use Rattle.wse_recover.specs.declared.fault.InitFault.{InitFault}
use Rattle.wse_recover.specs.declared.fault.InitFault.TheVariants as inits
use Rattle.wse_recover.specs.declared.fault.Unmade.{Unmade}
use Rattle.wse_recover.specs.declared.fault.Unmade.TheVariants as unmade

-- The files are those that were there, and what is read stands for a new store over them.
abbrev pub HasMade : Option Standing → Option Standing → Type 0
HasMade old new = Told (λ s t. (t.reading.files ≡ s.reading.files) × StandsFor (fresh s.reading.files) t.reading) old new

-- The tree passes the limit, so many there are, and nothing was written.
abbrev pub RefusesInit : {D : Type 0} → (D → Option Standing) → (D → ℕ) → Limits → D → InitFault D → Type 0
RefusesInit told faults limits old (inits.Disk new) = Rose (faults old) (faults new)
RefusesInit told faults limits old (inits.TooBig new which found) =
    WhereTold (told old) (λ s. start_hit limits s.reading.files ≡ Some (record { which = which; would_be = found })) × IsUntouched (told old) (told new)
RefusesInit told faults limits old (inits.Memory new) = IsUntouched (told old) (told new)

abbrev pub disk_of_fault : {D : Type 0} → InitFault D → D
disk_of_fault (inits.Disk disk) = disk
disk_of_fault (inits.TooBig disk which found) = disk
disk_of_fault (inits.Memory disk) = disk

abbrev pub disk_of_init : {D : Type 0} → Result D (InitFault D) → D
disk_of_init (Ok disk) = disk
disk_of_init (Err fault) = disk_of_fault fault

-- The count of the disk's faults never falls, and where it didn't fail it is as it was.
abbrev pub InitGoesOn : {D : Type 0} → (D → ℕ) → D → Result D (InitFault D) → Type 0
InitGoesOn faults old (Ok new) = faults new ≡ faults old
InitGoesOn faults old (Err (inits.Disk new)) = faults old ≤ faults new
InitGoesOn faults old (Err (inits.TooBig new which found)) = faults new ≡ faults old
InitGoesOn faults old (Err (inits.Memory new)) = faults new ≡ faults old

-- ---- before the disk is handed back

abbrev pub unmade_of : ReadErr → Unmade
unmade_of reads.Failed = unmade.Disk
unmade_of reads.Memory = unmade.Memory

-- The limit is the first that the tree passes.
abbrev pub RefusesTree : Option Standing → Limits → Unmade → Type 0
RefusesTree told limits unmade.Disk = ⊤
RefusesTree told limits (unmade.TooBig hit) = TellsHit told limits (Some hit)
RefusesTree told limits unmade.Memory = ⊤

-- So it is, and unless the disk failed nothing was written.
abbrev pub RefusesMaking : Option Standing → Option Standing → Limits → Unmade → Type 0
RefusesMaking old new limits unmade.Disk = ⊤
RefusesMaking old new limits (unmade.TooBig hit) = TellsHit old limits (Some hit) × IsUntouched old new
RefusesMaking old new limits unmade.Memory = IsUntouched old new

-- The count of faults of the disk never falls. It rose where the disk failed, and else it is as it was.
pub record HasMakingCause {T : Type 0} (before now : ℕ) (result : Result T Unmade) : Type 0 where
  pub later : before ≤ now
  pub failed : IsErrOf result unmade.Disk → Rose before now
  pub kept : (IsErrOf result unmade.Disk → ⊥) → now ≡ before
