-- What an image of the disk stands for.
use Rattle.std.specs.Prelude.{◌≡◌, ℕ, ◌%◌, ◌==◌, Bool, true, List, [], ◌∷◌, None, if◌then◌else◌}
use Rattle.std.specs.List.{last_or}
use Rattle.std.specs.Option.{option_map_or}
use Rattle.wse_path.specs.Path.{Path}
use Rattle.wse_path.specs.Tree.{Entries, set_files}
use Rattle.wse_element.specs.Content.{Content}
use Rattle.wse_element.specs.State.{State, kept_of}
use Rattle.wse_disk.specs.declared.area.Area.{Area}
use Rattle.wse_disk.specs.declared.area.Area.TheVariants.{LogA, LogB}
use Rattle.wse_disk.specs.Reading.{Reading, area_of}
use Rattle.wse_log.specs.Grammar.{JournalRecord, settled_byte, ClosedAt, IsJournal, JournalEnd, Reads}
use Rattle.wse_txn.specs.Replay.{Leaves, Gives, NoStoreAt}

-- The journal that the switch chooses, by its first byte: an even one, or none, chooses the first.
abbrev pub chosen_by : List ℕ → Area
chosen_by [] = LogA
chosen_by (b ∷ rest) = if b % 2 == 0 then LogA else LogB

abbrev pub chosen : Reading → Area
chosen r = chosen_by r.switch

abbrev pub journal_of : Reading → List ℕ
journal_of r = area_of (chosen r) r

-- The last record is settled.
abbrev pub ends_settled : List JournalRecord → Bool
ends_settled records = option_map_or (λ r. r.mark == settled_byte) (last_or None records) true

-- The files, in which what the last record sets is made, where it isn't settled.
abbrev pub finished : List JournalRecord → List (Path × Content) → Entries → Entries
finished records sets files = if ends_settled records then files else set_files sets files

-- The image stands for the state: the journal leaves what the state keeps, and the finished files are the state's. Locks don't
-- matter.
pub record StandsFor (s : State) (image : Reading) : Type 0 where
  pub records : List JournalRecord
  pub gate : ℕ
  pub journal : IsJournal (journal_of image) records gate
  pub sets : List (Path × Content)
  pub gives : Gives records (ClosedAt gate) (Leaves (record { kept = kept_of s; sets = sets }))
  pub files : s.files ≡ finished records sets image.files

-- The states differ in the locks at most.
pub record IsSameButLocks (s t : State) : Type 0 where
  pub kept : kept_of s ≡ kept_of t
  pub files : s.files ≡ t.files

-- The image is no store, and this is the first place where its journal isn't one.
pub record IsNoStore (image : Reading) (place : ℕ) : Type 0 where
  pub records : List JournalRecord
  pub ending : JournalEnd
  pub reads : Reads (journal_of image) records ending
  pub gives : Gives records ending (NoStoreAt place)
