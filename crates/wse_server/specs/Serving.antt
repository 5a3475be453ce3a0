-- How the serving of a line, or of all, ends.
use Rattle.std.specs.Prelude.{ℕ, Bool, true, false, Result, Ok, Err}
use Rattle.wse_io.specs.declared.lines.LineFault.{LineFault}
use Rattle.wse_io.specs.declared.lines.LineFault.TheVariants as line_faults
use Rattle.wse_stream.specs.Causes.{CountsFault}
use Rattle.wse_stream.specs.Runs.{Ending, otherwise}
use Rattle.wse_server.specs.declared.server.Stopped.{Stopped}
use Rattle.wse_server.specs.declared.server.Stopped.TheVariants as stopped
use Rattle.wse_server.specs.declared.serving.ServeFault.{ServeFault}
use Rattle.wse_server.specs.declared.serving.ServeFault.TheVariants as faults
use Rattle.wse_server.specs.declared.serving.ServeEnd.{ServeEnd}
use Rattle.wse_server.specs.declared.serving.ServeEnd.TheVariants.{Done, Read, Write, Disk, Memory, InputLimit}

abbrev pub ending_of : ServeEnd → Ending
ending_of Done = record otherwise { done = true }
ending_of Read = record otherwise { read = true }
ending_of Write = record otherwise { write = true }
ending_of Disk = record otherwise { disk = true }
ending_of Memory = record otherwise { memory = true }
ending_of (InputLimit taken) = record otherwise { passed = true }

-- The disk that a fault hands back.
abbrev pub fault_disk : {D : Type 0} → ServeFault D → D
fault_disk (faults.Write disk) = disk
fault_disk (faults.Disk disk) = disk
fault_disk (faults.Memory disk) = disk

-- The disk that serving a line leaves, however it ends.
abbrev pub one_disk : {D R : Type 0} → (R → D) → Result R (ServeFault D) → D
one_disk disk_of (Ok next) = disk_of next
one_disk disk_of (Err fault) = fault_disk fault

-- The line ended with a fault of the disk, or of the sink.
abbrev pub is_disk_fault : {D R : Type 0} → Result R (ServeFault D) → Bool
is_disk_fault (Ok next) = false
is_disk_fault (Err (faults.Write disk)) = false
is_disk_fault (Err (faults.Disk disk)) = true
is_disk_fault (Err (faults.Memory disk)) = false

abbrev pub is_write_fault : {D R : Type 0} → Result R (ServeFault D) → Bool
is_write_fault (Ok next) = false
is_write_fault (Err (faults.Write disk)) = true
is_write_fault (Err (faults.Disk disk)) = false
is_write_fault (Err (faults.Memory disk)) = false

-- A line that was stopped, as a fault of serving.
abbrev pub fault_of : {D : Type 0} → Stopped D → ServeFault D
fault_of (stopped.Disk disk) = faults.Disk disk
fault_of (stopped.Memory disk) = faults.Memory disk

-- How the counts of faults of the sink and of the disk went in a line.
pub record OneCause {D R : Type 0} (count : D → ℕ) (disk_of : R → D) (old : R) (sink_old sink_new : ℕ) (result : Result R (ServeFault D)) : Type 0 where
  pub sink : CountsFault (is_write_fault result) sink_old sink_new
  pub disk : CountsFault (is_disk_fault result) (count (disk_of old)) (count (one_disk disk_of result))

abbrev pub end_of_lines : LineFault → ServeEnd
end_of_lines line_faults.Read = Read
end_of_lines (line_faults.InputLimit n) = InputLimit n
end_of_lines line_faults.Memory = Memory

abbrev pub end_of_one : {D : Type 0} → ServeFault D → ServeEnd
end_of_one (faults.Write disk) = Write
end_of_one (faults.Disk disk) = Disk
end_of_one (faults.Memory disk) = Memory
