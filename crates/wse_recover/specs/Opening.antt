-- What is known of a disk while its store is opened.
use Rattle.std.specs.Prelude.{◌≡◌, ◌⊎◌, ◌≤◌, ⊤, ℕ, List, [], ◌∷◌, Option, Some, None, Result, Ok, Err, MatchResult}
use Rattle.wse_path.specs.Path.{Path}
use Rattle.wse_path.specs.Versions.{VersionsState}
use Rattle.wse_path.specs.declared.limits.Limits.{Limits}
use Rattle.wse_path.specs.Causes.{Rose}
use Rattle.wse_path.specs.Tree.{Entries, set_files, IsTree}
use Rattle.wse_path.specs.Changes.{changes_between}
use Rattle.wse_path.specs.declared.change.Change.{Change}
use Rattle.wse_element.specs.declared.plan.Plan.{Plan}
use Rattle.wse_element.specs.State.{State, Kept}
use Rattle.wse_element.specs.Way.{in_the_way}
use Rattle.wse_disk.specs.declared.area.Area.{Area}
use Rattle.wse_disk.specs.Reading.{Reading}
use Rattle.wse_disk.specs.Standing.{Standing}
use Rattle.wse_disk.specs.Told.{WhereTold, MayLeave, ReadsFiles}
use Rattle.wse_disk.specs.LeavesOnly.{LeavesOnly}
use Rattle.wse_stacks.specs.Stacks.{StacksNow}
use Rattle.wse_log.specs.Grammar.{JournalRecord, ClosedAt, IsJournal}
use Rattle.wse_txn.specs.Replay.{Replayed, Leaves, Gives}
use Rattle.wse_txn.specs.Stands.{StandsFor, IsNoStore, chosen, journal_of}
use Rattle.wse_recover.specs.Held.{held}
use Rattle.wse_recover.specs.Unsettled.{IsLast}
use Rattle.wse_recover.specs.declared.unsettled.Unsettled.{Unsettled}
use Rattle.wse_recover.specs.declared.read.Journal.{Journal}
use Rattle.wse_recover.specs.Measure.{TellsHit}
use Rattle.wse_recover.specs.Untouched.{IsUntouched}
use Rattle.wse_recover.specs.Open.{IsInTheWay, IsTooBig, HasStayed, disk_of_fault}
use Rattle.wse_recover.specs.declared.open.Opened.{Opened}
use Rattle.wse_recover.specs.declared.open.OpenFault.{OpenFault}
use Rattle.wse_recover.specs.declared.open.OpenFault.TheVariants as opens
use Rattle.wse_recover.specs.declared.fault.Unfinished.{Unfinished}
use Rattle.wse_recover.specs.declared.fault.Unfinished.TheVariants as unfinished
use Rattle.wse_recover.specs.declared.fault.ReplayFault.{ReplayFault}
use Rattle.wse_recover.specs.declared.fault.ReplayFault.TheVariants as faults

-- The files, in which what a last record sets is made, where there is one that isn't settled.
abbrev pub files_finished : Option Unsettled → Entries → Entries
files_finished None files = files
files_finished (Some last) files = set_files last.sets files

-- The state that keeps this over these files, without locks.
abbrev pub state_over : Kept → Entries → State
state_over kept files = record {
  files = files;
  versions = kept.versions;
  records = kept.records;
  next_id = kept.next_id;
  serial = kept.serial;
  locks = [];
}

-- The image's journal is in this area and ends well at the gate. It leaves what is kept, and its last record is settled, or is
-- `last`.
pub record IsJournalOf (area : Area) (gate : ℕ) (kept : Kept) (last : Option Unsettled) (image : Reading) : Type 0 where
  pub same_area : area ≡ chosen image
  pub records : List JournalRecord
  pub journal : IsJournal (journal_of image) records gate
  pub left : Replayed
  pub kept_is : left.kept ≡ kept
  pub gives : Gives records (ClosedAt gate) (Leaves left)
  pub ends : IsLast records left last

abbrev pub HasJournal : Option Standing → Journal → Type 0
HasJournal told journal = WhereTold told (λ s. IsJournalOf journal.area journal.gate (held journal.stacks journal.versions) journal.last s.reading)

-- It is so, whatever is kept.
abbrev pub EndsWith : Option Standing → Area → ℕ → Option Unsettled → Type 0
EndsWith told area gate last = WhereTold told (λ s. (kept : Kept) × IsJournalOf area gate kept last s.reading)

-- It is no store's, and this is the first place where it isn't.
abbrev pub TellsNoStore : Option Standing → ReplayFault → Type 0
TellsNoStore told (faults.NotAStore at) = WhereTold told (λ s. IsNoStore s.reading at)
TellsNoStore told faults.Disk = ⊤
TellsNoStore told faults.Memory = ⊤

-- ---- a last record that isn't settled

-- Nothing is in the way of what the last record sets, and these are the changes that it makes.
pub record IsFree (last : Unsettled) (files : Entries) (changes : List Change) : Type 0 where
  pub tree : IsTree files
  pub free : in_the_way files last.sets ≡ []
  pub changes_are : changes ≡ changes_between files (set_files last.sets files)

-- The plan has the record's effects, and makes these changes.
pub record IsPlanFor (told : Option Standing) (last : Unsettled) (plan : Plan) : Type 0 where
  pub effects_are : plan.effects ≡ last.effects
  pub free : WhereTold told (λ s. IsFree last s.reading.files plan.changes)

-- This file is the first in the way of what the record sets.
abbrev pub TellsInTheWay : Option Standing → Unsettled → Unfinished → Type 0
TellsInTheWay told last unfinished.Disk = ⊤
TellsInTheWay told last unfinished.Memory = ⊤
TellsInTheWay told last (unfinished.InTheWay p) = WhereTold told (λ s. (others : List Path) × (in_the_way s.reading.files last.sets ≡ p ∷ others))

-- ---- steps on the disk, which is handed on or back

abbrev pub disk_of_step : {D : Type 0} → Result D (OpenFault D) → D
disk_of_step (Ok disk) = disk
disk_of_step (Err fault) = disk_of_fault fault

-- Only the disk failed, or there was no memory, or a file is in the way: then nothing was written.
abbrev pub RefusesFinishing : {D : Type 0} → (D → Option Standing) → D → OpenFault D → Type 0
RefusesFinishing told old (opens.Disk new) = ⊤
RefusesFinishing told old (opens.Differs new p) = WhereTold (told old) (λ s. IsInTheWay s.reading p) × (told new ≡ told old)
RefusesFinishing told old (opens.Memory new) = told new ≡ told old
RefusesFinishing told old (opens.NotAStore new at) = ⊥
RefusesFinishing told old (opens.TooBig new which found) = ⊥

-- The count of faults never falls. It rose where the disk failed, and else it is as it was.
abbrev pub CountsFault : {D : Type 0} → (D → ℕ) → D → OpenFault D → Type 0
CountsFault faults old (opens.Disk new) = (faults old ≤ faults new) × Rose (faults old) (faults new)
CountsFault faults old (opens.Differs new p) = faults new ≡ faults old
CountsFault faults old (opens.Memory new) = faults new ≡ faults old
CountsFault faults old (opens.NotAStore new at) = faults new ≡ faults old
CountsFault faults old (opens.TooBig new which found) = faults new ≡ faults old

abbrev pub CountsStep : {D : Type 0} → (D → ℕ) → D → Result D (OpenFault D) → Type 0
CountsStep faults old result = MatchResult result (λ new. faults new ≡ faults old) (CountsFault faults old)

-- ---- the tree

-- The opened store is on this disk, as it was, with these stacks and versions, and has the tree that is read.
pub record IsFoundOn {D : Type 0} (told : D → Option Standing) (disk : D) (area : Area) (gate : ℕ) (stacks : StacksNow) (versions : VersionsState) (opened : Opened D) : Type 0 where
  pub same : told opened.idle.disk ≡ told disk
  pub same_area : opened.idle.area ≡ area
  pub same_gate : opened.idle.gate ≡ gate
  pub same_stacks : opened.stacks ≡ stacks
  pub same_versions : opened.versions ≡ versions
  pub tree : ReadsFiles (told disk) opened.tree.files

-- The tree passes the limit, or it wasn't read. The disk is as it was.
abbrev pub RefusesTreeOn : {D : Type 0} → (D → Option Standing) → Limits → D → OpenFault D → Type 0
RefusesTreeOn told limits old (opens.Disk new) = told new ≡ told old
RefusesTreeOn told limits old (opens.TooBig new which found) = TellsHit (told old) limits (Some (record { which = which; would_be = found })) × (told new ≡ told old)
RefusesTreeOn told limits old (opens.Memory new) = told new ≡ told old
RefusesTreeOn told limits old (opens.NotAStore new at) = ⊥
RefusesTreeOn told limits old (opens.Differs new p) = ⊥

-- ---- before the tree is compared

-- Why a store isn't found on a synced disk whose journal was read.
abbrev pub RefusesFoundBy : {D : Type 0} → (D → Option Standing) → Limits → D → OpenFault D → Type 0
RefusesFoundBy told limits old (opens.Disk new) = ⊤
RefusesFoundBy told limits old (opens.NotAStore new at) = ⊥
RefusesFoundBy told limits old (opens.TooBig new which found) =
    WhereTold (told old) (λ s. IsTooBig limits (record { which = which; would_be = found }) s.reading) × HasStayed (told old) (told new)
RefusesFoundBy told limits old (opens.Differs new p) = WhereTold (told old) (λ s. IsInTheWay s.reading p) × (told new ≡ told old)
RefusesFoundBy told limits old (opens.Memory new) = ⊤

-- Why a store isn't found on the disk.
abbrev pub RefusesFound : {D : Type 0} → (D → Option Standing) → Limits → D → OpenFault D → Type 0
RefusesFound told limits old (opens.Disk new) = ⊤
RefusesFound told limits old (opens.NotAStore new at) = WhereTold (told old) (λ s. IsNoStore s.reading at) × IsUntouched (told old) (told new)
RefusesFound told limits old (opens.TooBig new which found) =
    WhereTold (told old) (λ s. IsTooBig limits (record { which = which; would_be = found }) s.reading) × HasStayed (told old) (told new)
RefusesFound told limits old (opens.Differs new p) = WhereTold (told old) (λ s. IsInTheWay s.reading p) × IsUntouched (told old) (told new)
RefusesFound told limits old (opens.Memory new) = ⊤

abbrev pub CountsOpen : {D : Type 0} → (D → ℕ) → D → Result (Opened D) (OpenFault D) → Type 0
CountsOpen faults old result = MatchResult result (λ o. faults o.idle.disk ≡ faults old) (CountsFault faults old)

-- A crash leaves what a crash at the start might have left, or what stands for the state.
abbrev pub LeavesEarlierOr : State → Option Standing → Option Standing → Type 0
LeavesEarlierOr s old new = LeavesOnly old new (λ image. MayLeave old image ⊎ StandsFor s image)
