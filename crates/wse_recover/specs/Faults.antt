-- Faults of reading a journal.
use Rattle.wse_log.specs.declared.step.ScanFault.{ScanFault}
use Rattle.wse_log.specs.declared.step.ScanFault.TheVariants as scans
use Rattle.wse_disk.specs.declared.disk.ReadErr.{ReadErr}
use Rattle.wse_disk.specs.declared.disk.ReadErr.TheVariants as reads
use Rattle.wse_recover.specs.declared.fault.Unfinished.{Unfinished}
use Rattle.wse_recover.specs.declared.fault.Unfinished.TheVariants as unfinished
use Rattle.wse_recover.specs.declared.fault.ReplayFault.{ReplayFault}
use Rattle.wse_recover.specs.declared.fault.ReplayFault.TheVariants as faults

abbrev pub fault_of_scan : ScanFault → ReplayFault
fault_of_scan (scans.NotALog at) = faults.NotAStore at
fault_of_scan scans.Disk = faults.Disk
fault_of_scan scans.Memory = faults.Memory

abbrev pub unfinished_of : ReadErr → Unfinished
unfinished_of reads.Failed = unfinished.Disk
unfinished_of reads.Memory = unfinished.Memory
