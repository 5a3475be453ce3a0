-- How a line stops a server.
use Rattle.std.specs.Prelude.{ℕ, Bool, true, false, Result, Ok, Err}
use Rattle.wse_stream.specs.Causes.{CountsFault}
use Rattle.wse_server.specs.declared.server.Stopped.{Stopped}
use Rattle.wse_server.specs.declared.server.Stopped.TheVariants.{Disk, Memory}

-- The disk that is handed back.
abbrev pub stopped_disk : {D : Type 0} → Stopped D → D
stopped_disk (Disk disk) = disk
stopped_disk (Memory disk) = disk

-- The disk that a line leaves, however it ends.
abbrev pub disk_after : {D R A : Type 0} → (R → D) → Result (R × A) (Stopped D) → D
disk_after disk_of (Ok done) = disk_of done.0
disk_after disk_of (Err stop) = stopped_disk stop

-- The line was stopped by a failure of the disk.
abbrev pub is_disk_stop : {D A : Type 0} → Result A (Stopped D) → Bool
is_disk_stop (Ok done) = false
is_disk_stop (Err (Disk disk)) = true
is_disk_stop (Err (Memory disk)) = false

-- How the count of the disk's faults went in a line: it rose where the disk is said to have failed, and only there.
abbrev pub StepCause : {D R A : Type 0} → (D → ℕ) → (R → D) → R → Result (R × A) (Stopped D) → Type 0
StepCause count disk_of old result = CountsFault (is_disk_stop result) (count (disk_of old)) (count (disk_after disk_of result))
