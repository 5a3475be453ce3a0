-- The same of what is told.
use Rattle.std.proofs.Common.{◌≡◌, ℕ, ◌+◌, ◌-◌, ◌^◌, ◌<◌, ◌≤◌, List, [], ◌∷◌, ◌++◌, length, take, drop, Option, Some, None, refl, sym, ◌∙◌, ap, subst, arith, length-append}
use Rattle.std.proofs.lemmas.List.{length-take-le}
use Rattle.wse_path.specs.declared.change.Change.{Change}
use Rattle.wse_path.specs.Tree.{Entries}
use Rattle.wse_path.specs.Changes.{LeadToTree, stored, erased}
use Rattle.wse_disk.specs.declared.area.Area.{Area}
use Rattle.wse_disk.specs.declared.area.Area.TheVariants.{Switch, LogA, LogB}
use Rattle.wse_disk.specs.Reading.{Write, nothing_read, area_of, patched, applied}
use Rattle.wse_disk.specs.Reading.Write.{Patches}
use Rattle.wse_disk.specs.Standing.{Standing}
use Rattle.wse_disk.specs.Told.{reading_of, bytes_of_area}
use Rattle.wse_disk.specs.Calls.{Told, HasApplied, IsPatchable}
use Rattle.wse_disk.specs.Changes.{LeadsToTree, HasChanged}
use Rattle.wse_disk.proofs.AreaLemmas.{areas_stay}
use Rattle.wse_log.specs.Grammar.{JournalRecord, open_gate, settled_byte, IsJournal}
use Rattle.wse_log.specs.Writing.{staging, next_gate}
use Rattle.wse_log.proofs.Images.{gate_within}
use Rattle.wse_txn.specs.Journal.{IsUnsettledJournal, HasSettledJournal, HasUnsettledJournal, HasGate}
use Rattle.wse_txn.specs.Outcomes.{TellsAsBefore}
use Rattle.wse_txn.specs.Steps.{HasSealed}
use Rattle.wse_txn.proofs.Writing.{patched_area, record_written, record_settled}

nothing_there : (area : Area) → length (area_of area nothing_read) ≡ 0
nothing_there Switch = refl
nothing_there LogA = refl
nothing_there LogB = refl

-- Where nothing is told, no journal is read.
pub told_by_journal : (area : Area) (told : Option Standing) (records : List JournalRecord) (gate : ℕ) → IsJournal (bytes_of_area area told) records gate → told ≡ None → ⊥
told_by_journal area told records gate is none =
    omega (arith, ap (λ (t : Option Standing). length (bytes_of_area area t)) none, nothing_there area, gate_within (bytes_of_area area told) records gate is)

pub written_told : (w : Write) (old new : Option Standing) → (old ≡ None → ⊥) → HasApplied w old new → reading_of new ≡ applied w (reading_of old)
written_told w None new some is = absurd (some refl)
written_told w (Some s) None some is = absurd is
written_told w (Some s) (Some t) some is = is

pub tells_as_before : (R : Standing → Standing → Type 0) (old new : Option Standing) → Told R old new → TellsAsBefore old new
tells_as_before R None None is = record { on = λ tells. tells; back = λ tells. tells }
tells_as_before R None (Some t) is = absurd is
tells_as_before R (Some s) None is = absurd is
tells_as_before R (Some s) (Some t) is = record { on = λ tells. tt; back = λ tells. tt }

pub tells_on : (old mid new : Option Standing) → TellsAsBefore old mid → TellsAsBefore mid new → TellsAsBefore old new
tells_on old mid new first next = record { on = λ tells. next.on (first.on tells); back = λ tells. first.back (next.back tells) }

-- What was written is told where the old is.
pub told_on : (w : Write) (old new : Option Standing) → (old ≡ None → ⊥) → HasApplied w old new → new ≡ None → ⊥
told_on w None new some is none = some refl
told_on w (Some s) None some is none = is
told_on w (Some s) (Some t) some is none = cc

-- A record may be written behind the gate, and then the gate.
pub behind_gate_patchable : (told : Option Standing) (area : Area) (gate : ℕ) (bytes : List ℕ) → HasGate told area gate → 0 < length bytes → IsPatchable told area (gate + 1) bytes
behind_gate_patchable None area gate bytes has some = tt
behind_gate_patchable (Some s) area gate bytes has some = (some, has)

longer : (place : ℕ) (bytes old : List ℕ) → place ≤ length old → place ≤ length (patched place bytes old)
longer place bytes old le =
    let whole : length (patched place bytes old) ≡ length (take place old ++ bytes ++ drop (place + length bytes) old) = refl in
    omega (arith, whole, le, length-append (take place old ++ bytes) (drop (place + length bytes) old), length-append (take place old) bytes, length-take-le place old le)

pub gate_patchable : (old mid : Option Standing) (area : Area) (gate : ℕ) (bytes byte : List ℕ) → HasGate old area gate → HasApplied (Patches area (gate + 1) bytes) old mid → 0 < length byte → IsPatchable mid area gate byte
gate_patchable old None area gate bytes byte has is some = tt
gate_patchable None (Some t) area gate bytes byte has is some = absurd is
gate_patchable (Some s) (Some t) area gate bytes byte has is some =
    (some, omega (arith, ap length (patched_area area (gate + 1) bytes s.reading t.reading is), longer (gate + 1) bytes (area_of area s.reading) has))

pub mark_patchable : (told : Option Standing) (area : Area) (gate : ℕ) (byte : List ℕ) → HasGate told area gate → 0 < length byte → IsPatchable told area (gate - 1) byte
mark_patchable None area gate byte has some = tt
mark_patchable (Some s) area gate byte has some = (some, omega (arith, has))

-- What the two writes leave.
pub has_sealed : (area : Area) (gate : ℕ) (body : List ℕ) (old mid new : Option Standing) → length body < 2 ^ 32 → HasSettledJournal old area gate → HasApplied (Patches area (gate + 1) (staging body)) old mid → HasApplied (Patches area gate (open_gate ∷ [])) mid new → HasSealed area gate body old new
has_sealed area gate body None None None short has first next = tt
has_sealed area gate body None None (Some u) short has first next = absurd next
has_sealed area gate body None (Some t) new short has first next = absurd first
has_sealed area gate body (Some s) None new short has first next = absurd first
has_sealed area gate body (Some s) (Some t) None short has first next = absurd next
has_sealed area gate body (Some s) (Some t) (Some u) short has first next =
    let done = record_written area has.0 gate body s.reading has.1 short t.reading first u.reading next in
    ((has.0, done.journal), done.only.files)

-- What the settled byte leaves.
pub has_settled : (area : Area) (gate : ℕ) (body : List ℕ) (old new : Option Standing) → HasUnsettledJournal old area body gate → HasApplied (Patches area (gate - 1) (settled_byte ∷ [])) old new → HasSettledJournal new area gate
has_settled area gate body old None has is = tt
has_settled area gate body None (Some t) has is = absurd is
has_settled area gate body (Some s) (Some t) has is = (_, (record_settled area has.0 gate body s.reading has.1 t.reading is).journal)

-- The gate of a journal stands.
pub gate_stands : (told : Option Standing) (area : Area) (gate : ℕ) → HasSettledJournal told area gate → HasGate told area gate
gate_stands None area gate has = tt
gate_stands (Some s) area gate has = gate_within (area_of area s.reading) has.0 gate has.1.journal

pub unsettled_gate_stands : (told : Option Standing) (area : Area) (body : List ℕ) (gate : ℕ) → HasUnsettledJournal told area body gate → HasGate told area gate
unsettled_gate_stands None area body gate has = tt
unsettled_gate_stands (Some s) area body gate has = gate_within (area_of area s.reading) (has.0 ++ record { body = body; mark = has.1.mark } ∷ []) gate has.1.journal

-- What is known of the state after the record was written.
pub sealed_journal_told : (area : Area) (gate next : ℕ) (body : List ℕ) (old new : Option Standing) → next ≡ next_gate gate body → HasSealed area gate body old new → HasUnsettledJournal new area body next
sealed_journal_told area gate next body old None is has = tt
sealed_journal_told area gate next body None (Some t) is has = absurd has
sealed_journal_told area gate next body (Some s) (Some t) is has = (has.0.0, subst (IsUnsettledJournal (area_of area t.reading) has.0.0 body) (sym is) has.0.1)

pub sealed_tree : (area : Area) (gate : ℕ) (body : List ℕ) (changes : List Change) (old new : Option Standing) → HasSealed area gate body old new → LeadsToTree old changes → LeadsToTree new changes
sealed_tree area gate body changes old None has lead = tt
sealed_tree area gate body changes None (Some t) has lead = absurd has
sealed_tree area gate body changes (Some s) (Some t) has lead = subst (λ (files : Entries). LeadToTree files changes) (sym has.1) lead

-- Changes of files leave the journal.
pub changed_journal : (area : Area) (gate : ℕ) (body : List ℕ) (changes : List Change) (old new : Option Standing) → HasChanged changes old new → HasUnsettledJournal old area body gate → HasUnsettledJournal new area body gate
changed_journal area gate body changes old None is has = tt
changed_journal area gate body changes None (Some t) is has = absurd is
changed_journal area gate body changes (Some s) (Some t) is has =
    (has.0, subst (λ (l : List ℕ). IsUnsettledJournal l has.0 body gate) (sym (ap (area_of area) is ∙ areas_stay area (stored changes (erased changes s.reading.files)) s.reading)) has.1)
