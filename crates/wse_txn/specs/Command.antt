-- One command over a disk that stands for a state.
use Rattle.std.specs.Prelude.{◌≡◌, ◌⊎◌, ℕ, List, Option}
use Rattle.wse_element.specs.State.{State}
use Rattle.wse_disk.specs.declared.area.Area.{Area}
use Rattle.wse_disk.specs.Reading.{Reading}
use Rattle.wse_disk.specs.Standing.{Standing}
use Rattle.wse_disk.specs.Told.{reading_of}
use Rattle.wse_log.specs.Grammar.{JournalRecord}
use Rattle.wse_txn.specs.Journal.{IsSettledJournal}
use Rattle.wse_txn.specs.Stands.{StandsFor, chosen, journal_of}

-- What is read stands for the state, and its journal, all of whose records are settled, is in this area and ends at this gate.
pub record IsAt (s : State) (area : Area) (gate : ℕ) (told : Option Standing) : Type 0 where
  pub stands : StandsFor s (reading_of told)
  pub same_area : area ≡ chosen (reading_of told)
  pub records : List JournalRecord
  pub journal : IsSettledJournal (journal_of (reading_of told)) records gate

-- The image stands for the old state or for the new one.
abbrev pub StandsForOneOf : State → State → Reading → Type 0
StandsForOneOf old new image = StandsFor old image ⊎ StandsFor new image
