-- What the parts of a scan find.
use Rattle.std.specs.Prelude.{◌≡◌, ◌≢◌, ⊤, ℕ, ◌+◌, ◌≤◌, ◌==◌, Bool, List, ◌++◌, length, drop, slice_index, Option, Some, None, Result, Ok, Err}
use Rattle.wse_disk.specs.declared.area.Area.{Area}
use Rattle.wse_disk.specs.Reading.{area_of}
use Rattle.wse_disk.specs.Standing.{Standing}
use Rattle.wse_disk.specs.Told.{WhereTold}
use Rattle.wse_log.specs.declared.record.Found.{Found}
use Rattle.wse_log.specs.declared.step.ScanFault.{ScanFault}
use Rattle.wse_log.specs.declared.step.ScanFault.TheVariants.{NotALog, Disk, Memory}
use Rattle.wse_log.specs.Grammar.{JournalRecord, header, open_gate, settled_byte, behind_gate, FailsHeader, BeginWithNoRecord}

-- The first place where the bytes fail the header, or none.
abbrev pub FindsHeader : List ℕ → Option ℕ → Type 0
FindsHeader bytes (Some place) = FailsHeader bytes place
FindsHeader bytes None = (rest : List ℕ) × (bytes ≡ header ++ rest)

abbrev pub ReadsHeader : Option Standing → Area → Option ℕ → Type 0
ReadsHeader told area found = WhereTold told (λ s. FindsHeader (area_of area s.reading) found)

-- The gate at the place is open or not, or missing.
abbrev pub FindsGate : List ℕ → ℕ → Result Bool ScanFault → Type 0
FindsGate bytes place (Ok is_open) = is_open ≡ (slice_index bytes place == open_gate)
FindsGate bytes place (Err (NotALog named)) = (named ≡ place) × (length bytes ≤ place)
FindsGate bytes place (Err Disk) = ⊤
FindsGate bytes place (Err Memory) = ⊤

abbrev pub ReadsGate : Option Standing → Area → ℕ → Result Bool ScanFault → Type 0
ReadsGate told area place result = WhereTold told (λ s. FindsGate (area_of area s.reading) place result)

-- The mark at the place says that its record is settled, or it doesn't.
abbrev pub FindsMark : {T : Type 0} → List ℕ → ℕ → Result T ScanFault → Type 0
FindsMark bytes place (Ok x) = slice_index bytes place ≡ settled_byte
FindsMark bytes place (Err (NotALog named)) = (named ≡ place) × (slice_index bytes place ≢ settled_byte)
FindsMark bytes place (Err Disk) = ⊤
FindsMark bytes place (Err Memory) = ⊤

abbrev pub ReadsMark : {T : Type 0} → Option Standing → Area → ℕ → Result T ScanFault → Type 0
ReadsMark told area place result = WhereTold told (λ s. FindsMark (area_of area s.reading) place result)

abbrev pub record_of : Found → JournalRecord
record_of found = record { body = found.body; mark = found.mark }

-- Behind the gate stands this record, or none.
abbrev pub FindsRecord : List ℕ → ℕ → Result Found ScanFault → Type 0
FindsRecord bytes gate (Ok found) = (more : List ℕ) × (drop (gate + 1) bytes ≡ behind_gate (record_of found) ++ more)
FindsRecord bytes gate (Err (NotALog named)) = (named ≡ gate) × BeginWithNoRecord (drop (gate + 1) bytes)
FindsRecord bytes gate (Err Disk) = ⊤
FindsRecord bytes gate (Err Memory) = ⊤

abbrev pub ReadsRecord : Option Standing → Area → ℕ → Result Found ScanFault → Type 0
ReadsRecord told area gate result = WhereTold told (λ s. FindsRecord (area_of area s.reading) gate result)
