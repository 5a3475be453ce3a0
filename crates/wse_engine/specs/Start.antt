-- What opening an engine leaves. This project's own rule.
use Rattle.std.specs.Prelude.{◌≡◌, ◌≤◌, ◌⊎◌, ℕ, Bool, Option, Result, Ok, Err}
use Rattle.wse_element.specs.State.{State}
use Rattle.wse_disk.specs.Standing.{Standing}
use Rattle.wse_disk.specs.Told.{MayLeave}
use Rattle.wse_disk.specs.LeavesOnly.{LeavesOnly}
use Rattle.wse_recover.specs.Open.{StandsForOpened, disk_of_fault, may_adopt}
use Rattle.wse_recover.specs.declared.open.OpenFault.{OpenFault}
use Rattle.wse_recover.specs.declared.open.OpenFault.TheVariants as opens
use Rattle.wse_engine.specs.Engine.{EngineNow}

-- The disk that is handed on or back.
abbrev pub disk_started : {D : Type 0} → Result (EngineNow D) (OpenFault D) → D
disk_started (Ok engine) = engine.disk
disk_started (Err fault) = disk_of_fault fault

-- A crash during it leaves what a crash at its start might have left, or what stands for the state; or with `adopt`, where it was
-- started or the disk failed, for what adopting makes of it.
abbrev pub LeavesStart : {D : Type 0} → (adopt : Bool) → (D → Option Standing) → D → State → Result (EngineNow D) (OpenFault D) → Type 0
LeavesStart adopt told old s result =
    LeavesOnly (told old) (told (disk_started result)) (λ image. MayLeave (told old) image ⊎ StandsForOpened (may_adopt adopt result) s image)

-- The count of the disk's faults never falls, and where it didn't fail it is as it was.
abbrev pub StartKeeps : {D : Type 0} → (D → ℕ) → D → Result (EngineNow D) (OpenFault D) → Type 0
StartKeeps count old (Ok engine) = count engine.disk ≡ count old
StartKeeps count old (Err (opens.Disk new)) = count old ≤ count new
StartKeeps count old (Err (opens.NotAStore new at)) = count new ≡ count old
StartKeeps count old (Err (opens.TooBig new which found)) = count new ≡ count old
StartKeeps count old (Err (opens.Differs new p)) = count new ≡ count old
StartKeeps count old (Err (opens.Memory new)) = count new ≡ count old
