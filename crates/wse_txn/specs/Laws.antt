-- What one command leaves on a disk that stands for a state, from the start of `seal` to the end of `close`.
use Rattle.std.specs.Prelude.{◌≡◌, ℕ, List, Option}
use Rattle.wse_element.specs.declared.plan.Plan.{Plan}
use Rattle.wse_element.specs.State.{State}
use Rattle.wse_element.specs.Effects.{state_after}
use Rattle.wse_disk.specs.Reading.{Reading}
use Rattle.wse_disk.specs.Standing.{Standing}
use Rattle.wse_disk.specs.Told.{reading_of}
use Rattle.wse_disk.specs.Changes.{ChangesOnly, HasChanged}
use Rattle.wse_disk.specs.LeavesOnly.{LeavesOnly}
use Rattle.wse_log.specs.Grammar.{JournalRecord}
use Rattle.wse_log.specs.Writing.{next_gate}
use Rattle.wse_txn.specs.States.{body_of}
use Rattle.wse_txn.specs.Journal.{IsSettledJournal}
use Rattle.wse_txn.specs.Images.{IsSealing, IsSealed, IsClosing, IsClosed}
use Rattle.wse_txn.specs.Stands.{StandsFor, IsNoStore, IsSameButLocks, chosen, journal_of}
use Rattle.wse_codec.specs.Comes.{MayCome}
use Rattle.wse_txn.specs.Command.{StandsForOneOf}

-- At a start that stands for the state, with this journal, the record of a plan that may come there is written.
pub record Seals (s : State) (plan : Plan) (records : List JournalRecord) (gate : ℕ) (start sealed : Option Standing) : Type 0 where
  pub stands : StandsFor s (reading_of start)
  pub may : MayCome s plan
  pub journal : IsSettledJournal (journal_of (reading_of start)) records gate
  pub leaves : LeavesOnly start sealed (IsSealing (chosen (reading_of start)) records gate (body_of plan) (reading_of start))

-- It is written, and its changes are made.
pub record Settles (s : State) (plan : Plan) (records : List JournalRecord) (gate : ℕ) (start sealed made : Option Standing) : Type 0 where
  pub seals : Seals s plan records gate start sealed
  pub whole : IsSealed (chosen (reading_of start)) records gate (body_of plan) (reading_of start) (reading_of sealed)
  pub leaves : LeavesOnly sealed made (ChangesOnly plan.changes (reading_of sealed))

-- They are made, and the record is settled.
pub record Closes (s : State) (plan : Plan) (records : List JournalRecord) (gate : ℕ) (start sealed made closed : Option Standing) : Type 0 where
  pub settles : Settles s plan records gate start sealed made
  pub done : HasChanged plan.changes sealed made
  pub leaves : LeavesOnly made closed (IsClosing (chosen (reading_of start)) records (next_gate gate (body_of plan)) (body_of plan) (reading_of made))

-- A crash leaves the old state or the new one.
abbrev pub LeavesOneOf : State → Plan → Option Standing → Option Standing → Type 0
LeavesOneOf s plan start now = LeavesOnly start now (StandsForOneOf s (state_after s plan.effects))

-- Up to the end of each of the three calls, whether it failed or not, it is so. After the last the disk stands for the new state.
pub record CommandIsWhole : Type 0 where
  pub writing : (s : State) (plan : Plan) (records : List JournalRecord) (gate : ℕ) (start sealed : Option Standing)
      → Seals s plan records gate start sealed → LeavesOneOf s plan start sealed
  pub changing : (s : State) (plan : Plan) (records : List JournalRecord) (gate : ℕ) (start sealed made : Option Standing)
      → Settles s plan records gate start sealed made → LeavesOneOf s plan start made
  pub closing : (s : State) (plan : Plan) (records : List JournalRecord) (gate : ℕ) (start sealed made closed : Option Standing)
      → Closes s plan records gate start sealed made closed → LeavesOneOf s plan start closed
  pub closed : (s : State) (plan : Plan) (records : List JournalRecord) (gate : ℕ) (start sealed made closed : Option Standing)
      → Closes s plan records gate start sealed made closed
      → IsClosed (chosen (reading_of start)) records (next_gate gate (body_of plan)) (body_of plan) (reading_of made) (reading_of closed)
      → StandsFor (state_after s plan.effects) (reading_of closed)

-- An image stands for one state, whatever the locks, or it is no store, in one place.
pub record ImagesStandForOne : Type 0 where
  pub one : (s t : State) (image : Reading) → StandsFor s image → StandsFor t image → IsSameButLocks s t
  pub alike : (s t : State) (image : Reading) → IsSameButLocks s t → StandsFor s image → StandsFor t image
  pub never : (s : State) (image : Reading) (place : ℕ) → StandsFor s image → IsNoStore image place → ⊥
  pub place : (image : Reading) (p q : ℕ) → IsNoStore image p → IsNoStore image q → p ≡ q
