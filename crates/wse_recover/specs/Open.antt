-- What opening a store gives, and why it is refused. This project's own rule.
use Rattle.std.specs.Prelude.{◌≡◌, ◌≢◌, ◌≤◌, ◌⊎◌, ⊤, ℕ, Bool, true, false, List, [], ◌∷◌, Option, Some, None, Result, Ok, Err}
use Rattle.wse_path.specs.Causes.{Rose}
use Rattle.wse_path.specs.Path.{Path}
use Rattle.wse_path.specs.declared.limits.Limits.{Limits}
use Rattle.wse_path.specs.declared.limits.Hit.{Hit}
use Rattle.wse_element.specs.Content.{Content}
use Rattle.wse_element.specs.State.{State, Kept}
use Rattle.wse_element.specs.Way.{in_the_way}
use Rattle.wse_disk.specs.Reading.{Reading}
use Rattle.wse_disk.specs.Standing.{Standing}
use Rattle.wse_disk.specs.Told.{WhereTold, MayLeave}
use Rattle.wse_disk.specs.Calls.{Told}
use Rattle.wse_disk.specs.LeavesOnly.{LeavesOnly}
use Rattle.wse_log.specs.Grammar.{JournalRecord, IsJournal, ClosedAt}
use Rattle.wse_txn.specs.Replay.{Leaves, Gives}
use Rattle.wse_txn.specs.Stands.{StandsFor, IsNoStore, journal_of, ends_settled}
use Rattle.wse_recover.specs.Start.{start_hit}
use Rattle.wse_recover.specs.Untouched.{IsUntouched}
use Rattle.wse_recover.specs.Differing.{AreDiffering}
use Rattle.wse_recover.specs.Adopting.{IsAdopted, adopting_hit}
use Rattle.wse_recover.specs.declared.open.Opened.{Opened}
use Rattle.wse_recover.specs.declared.open.OpenFault.{OpenFault}
use Rattle.wse_recover.specs.declared.open.OpenFault.TheVariants as opens

-- What an opened store holds, without locks.
abbrev pub opened_state : {D : Type 0} → Opened D → State
opened_state o = record {
  files = o.tree.files;
  versions = o.versions.entries;
  records = o.stacks.state.records;
  next_id = o.stacks.state.next_id;
  serial = o.stacks.state.serial;
  locks = [];
}

-- It is the state for which the image stands, or with `adopt` what adopting makes of it.
abbrev pub IsOpened : (adopt : Bool) → State → Reading → Type 0
IsOpened false s image = StandsFor s image
IsOpened true s image = (t : State) × StandsFor t image × IsAdopted t s

-- The last record isn't settled, and this is the first file outside its paths that is above or under one that it makes present.
pub record IsInTheWay (image : Reading) (p : Path) : Type 0 where
  pub records : List JournalRecord
  pub gate : ℕ
  pub journal : IsJournal (journal_of image) records gate
  pub kept : Kept
  pub sets : List (Path × Content)
  pub gives : Gives records (ClosedAt gate) (Leaves (record { kept = kept; sets = sets }))
  pub unsettled : ends_settled records ≡ false
  pub others : List Path
  pub files : in_the_way image.files sets ≡ p ∷ others

-- The image stands for a state whose tree isn't as its records say, at this path first.
abbrev pub DiffersFirstAt : Path → Reading → Type 0
DiffersFirstAt p image = (s : State) × StandsFor s image × ((others : List Path) × AreDiffering s.files s.records (p ∷ others))

-- It stands for a state whose tree passes the limit.
abbrev pub IsTooBig : Limits → Hit → Reading → Type 0
IsTooBig limits hit image = (s : State) × StandsFor s image × (start_hit limits s.files ≡ Some hit)

-- It stands for a state whose tree passes none, and adopting would change it and pass the limit.
abbrev pub AdoptsTooMuch : Limits → Hit → Reading → Type 0
AdoptsTooMuch limits hit image =
    (s : State) × StandsFor s image × (start_hit limits s.files ≡ None) × ((t : State) × IsAdopted s t × (t ≢ s) × (adopting_hit limits t ≡ Some hit))

-- What is read stands for what it stood for at the start.
abbrev pub HasStayed : Option Standing → Option Standing → Type 0
HasStayed old new = Told (λ s t. (u : State) → StandsFor u s.reading → StandsFor u t.reading) old new

abbrev pub RefusesOpen : {D : Type 0} → (D → Option Standing) → (D → ℕ) → (adopt : Bool) → Limits → D → OpenFault D → Type 0
RefusesOpen told faults adopt limits old (opens.Disk new) = Rose (faults old) (faults new)
RefusesOpen told faults adopt limits old (opens.NotAStore new at) =
    WhereTold (told old) (λ s. IsNoStore s.reading at) × IsUntouched (told old) (told new)
RefusesOpen told faults adopt limits old (opens.TooBig new which found) =
    let hit : Hit = record { which = which; would_be = found } in
    WhereTold (told old) (λ s. IsTooBig limits hit s.reading ⊎ ((adopt ≡ true) × AdoptsTooMuch limits hit s.reading)) × HasStayed (told old) (told new)
RefusesOpen told faults adopt limits old (opens.Differs new p) =
    (WhereTold (told old) (λ s. IsInTheWay s.reading p) × IsUntouched (told old) (told new))
    ⊎ ((adopt ≡ false) × WhereTold (told old) (λ s. DiffersFirstAt p s.reading) × HasStayed (told old) (told new))
RefusesOpen told faults adopt limits old (opens.Memory new) = ⊤

-- ---- moments

abbrev pub disk_of_fault : {D : Type 0} → OpenFault D → D
disk_of_fault (opens.Disk disk) = disk
disk_of_fault (opens.NotAStore disk at) = disk
disk_of_fault (opens.TooBig disk which found) = disk
disk_of_fault (opens.Differs disk p) = disk
disk_of_fault (opens.Memory disk) = disk

abbrev pub disk_of_open : {D : Type 0} → Result (Opened D) (OpenFault D) → D
disk_of_open (Ok o) = o.idle.disk
disk_of_open (Err fault) = disk_of_fault fault

-- The image stands for the state, or with `adopt` for what adopting makes of it.
abbrev pub StandsForOpened : (adopt : Bool) → State → Reading → Type 0
StandsForOpened false s image = StandsFor s image
StandsForOpened true s image = StandsFor s image ⊎ ((t : State) × IsAdopted s t × StandsFor t image)

-- Whether adopting may have come to the disk before this fault. Only where the disk failed may it: a refusal and want of memory
-- adopt nothing.
abbrev pub fault_may_adopt : {D : Type 0} → (adopt : Bool) → OpenFault D → Bool
fault_may_adopt adopt (opens.Disk disk) = adopt
fault_may_adopt adopt (opens.NotAStore disk at) = false
fault_may_adopt adopt (opens.TooBig disk which found) = false
fault_may_adopt adopt (opens.Differs disk p) = false
fault_may_adopt adopt (opens.Memory disk) = false

-- Whether it may have come there before this answer.
abbrev pub may_adopt : {D T : Type 0} → (adopt : Bool) → Result T (OpenFault D) → Bool
may_adopt adopt (Ok opened) = adopt
may_adopt adopt (Err fault) = fault_may_adopt adopt fault

-- A crash during opening leaves what a crash at its start might have left, or what stands so, where the adopted state is one
-- only before an answer before which adopting may have come to the disk.
abbrev pub LeavesOpening : {D : Type 0} → (adopt : Bool) → (D → Option Standing) → D → State → Result (Opened D) (OpenFault D) → Type 0
LeavesOpening adopt told old s result =
    LeavesOnly (told old) (told (disk_of_open result)) (λ image. MayLeave (told old) image ⊎ StandsForOpened (may_adopt adopt result) s image)

-- The count of the disk's faults never falls, and where it didn't fail it is as it was.
abbrev pub OpenGoesOn : {D : Type 0} → (D → ℕ) → D → Result (Opened D) (OpenFault D) → Type 0
OpenGoesOn faults old (Ok o) = faults o.idle.disk ≡ faults old
OpenGoesOn faults old (Err (opens.Disk new)) = faults old ≤ faults new
OpenGoesOn faults old (Err (opens.NotAStore new at)) = faults new ≡ faults old
OpenGoesOn faults old (Err (opens.TooBig new which found)) = faults new ≡ faults old
OpenGoesOn faults old (Err (opens.Differs new p)) = faults new ≡ faults old
OpenGoesOn faults old (Err (opens.Memory new)) = faults new ≡ faults old

-- ---- limits

-- Where adopting changed the state for which the image stands, it passes none of the limits on what is known and on serial
-- numbers.
abbrev pub AdoptsWithin : Limits → State → Reading → Type 0
AdoptsWithin limits s image = (t : State) × StandsFor t image × ((s ≡ t) ⊎ (adopting_hit limits s ≡ None))
