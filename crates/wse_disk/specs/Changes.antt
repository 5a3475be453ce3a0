-- Changes of files, made on a disk.
use Rattle.std.specs.Prelude.{◌≡◌, ◌⊎◌, ⊤, Bool, true, List, [], ◌∷◌, Option, is_some, is_none, filter}
use Rattle.std.specs.List.{list_any}
use Rattle.wse_path.specs.Tree.{Entries}
use Rattle.wse_path.specs.Changes.{is_changed, erased, erased_at, stored, stored_at, LeadToTree, DiffersOnlyAt}
use Rattle.wse_path.specs.declared.change.Change.{Change}
use Rattle.wse_disk.specs.declared.area.Area.{Area}
use Rattle.wse_disk.specs.Reading.{Reading, Write, Stores, Erases, Patches, area_of, with_files}
use Rattle.wse_disk.specs.Standing.{Standing}
use Rattle.wse_disk.specs.Told.{WhereTold, reading_of}
use Rattle.wse_disk.specs.LeavesOnly.{LeavesOnly}
use Rattle.wse_disk.specs.Calls.{Told}

-- The files are a tree, which differs from the old one only at paths that change. The areas are the old ones.
pub record ChangesOnly (changes : List Change) (old new : Reading) : Type 0 where
  pub files : DiffersOnlyAt changes old.files new.files
  pub areas : (a : Area) → area_of a new ≡ area_of a old

-- The changes lead from the files that are read to a tree.
abbrev pub LeadsToTree : Option Standing → List Change → Type 0
LeadsToTree told changes = WhereTold told (λ s. LeadToTree s.reading.files changes)

-- What the changes take away is gone, and all else is as it was.
abbrev pub HasErased : List Change → Option Standing → Option Standing → Type 0
HasErased changes old new = Told (λ s t. t.reading ≡ with_files (erased changes s.reading.files) s.reading) old new

-- What the changes put is there, and all else is as it was.
abbrev pub HasStored : List Change → Option Standing → Option Standing → Type 0
HasStored changes old new = Told (λ s t. t.reading ≡ with_files (stored changes s.reading.files) s.reading) old new

-- What the changes take away is gone, what they put is there, and all else is as it was.
abbrev pub HasChanged : List Change → Option Standing → Option Standing → Type 0
HasChanged changes old new = Told (λ s t. t.reading ≡ with_files (stored changes (erased changes s.reading.files)) s.reading) old new

-- What is read differs at most at the paths that change.
abbrev pub HasChangedOnly : List Change → Option Standing → Option Standing → Type 0
HasChangedOnly changes old new = Told (λ s t. ChangesOnly changes s.reading t.reading) old new

-- Some change takes a path away.
abbrev pub takes_away : List Change → Bool
takes_away changes = list_any (λ c. is_none c.after) changes

-- Some change puts something.
abbrev pub puts : List Change → Bool
puts changes = list_any (λ c. is_some c.after) changes

-- Those of the changes that take their paths away.
abbrev pub erasing : List Change → List Change
erasing changes = filter (λ c. is_none c.after) changes

-- Those of the changes that put something.
abbrev pub storing : List Change → List Change
storing changes = filter (λ c. is_some c.after) changes

-- What the changes put comes only when all that they take away is gone: before that, the new reading differs from the old
-- one only at paths that are taken away, and then, from the old one without these, only at paths where something is put.
abbrev pub ErasesFirst : List Change → (old new : Reading) → Type 0
ErasesFirst changes old new =
    ChangesOnly (erasing changes) old new ⊎ ChangesOnly (storing changes) (with_files (erased changes old.files) old) new

-- What is read is what the changes leave of some files that they lead to a tree, when they have taken away.
abbrev pub LeadsFromErased : Option Standing → List Change → Type 0
LeadsFromErased told changes = WhereTold told (λ s. (files : Entries) × LeadToTree files changes × (s.reading.files ≡ erased changes files))

-- One change took its path away, if it does.
abbrev pub HasErasedOne : Change → Option Standing → Option Standing → Type 0
HasErasedOne change old new = Told (λ s t. t.reading ≡ with_files (erased_at change.path change.after s.reading.files) s.reading) old new

-- One change put its content, if it has one.
abbrev pub HasStoredOne : Change → Option Standing → Option Standing → Type 0
HasStoredOne change old new = Told (λ s t. t.reading ≡ with_files (stored_at change.path change.after s.reading.files) s.reading) old new

-- Each write is a store or an erase of a path that changes.
abbrev pub AllOf : List Change → List Write → Type 0
AllOf changes [] = ⊤
AllOf changes (Stores p bytes ∷ ws) = (is_changed changes p ≡ true) × AllOf changes ws
AllOf changes (Erases p ∷ ws) = (is_changed changes p ≡ true) × AllOf changes ws
AllOf changes (Patches a place bytes ∷ ws) = ⊥

-- Since nothing was pending at the start, only paths that change were written, and a crash left all else.
pub record AreUnderway (changes : List Change) (start now : Option Standing) : Type 0 where
  pub only : Told (λ s t. (t.pending.base ≡ s.reading) × AllOf changes t.pending.writes) start now
  pub leaves : LeavesOnly start now (ChangesOnly changes (reading_of start))
