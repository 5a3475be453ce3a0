-- What reading a journal's first record answers.
use Rattle.std.specs.Prelude.{◌≡◌, ◌⊎◌, ⊤, ℕ, ◌+◌, List, Option, None, Result, Ok, Err}
use Rattle.wse_element.specs.State.{Kept}
use Rattle.wse_element.specs.Linked.{IsKeptLinked}
use Rattle.wse_codec.specs.declared.snapshot.Snapshot.{Snapshot}
use Rattle.wse_codec.specs.Allowed.{IsAllowedState}
use Rattle.wse_codec.specs.Reading.{read_snapshot}
use Rattle.wse_disk.specs.declared.area.Area.{Area}
use Rattle.wse_disk.specs.Reading.{area_of}
use Rattle.wse_disk.specs.Standing.{Standing}
use Rattle.wse_disk.specs.Told.{WhereTold}
use Rattle.wse_log.specs.Grammar.{JournalRecord, JournalEnd, Reads}
use Rattle.wse_txn.specs.Replay.{Replayed, NoStoreAt, Gives, kept_in}
use Rattle.wse_recover.specs.Replaying.{IsReplayed}
use Rattle.wse_recover.specs.Held.{held}
use Rattle.wse_recover.specs.declared.fault.ReplayFault.{ReplayFault}
use Rattle.wse_recover.specs.declared.fault.ReplayFault.TheVariants as faults
use Rattle.wse_recover.specs.declared.first_record.Begun.{Begun}

-- The body spells this state.
pub record IsStateOf (body : List ℕ) (state : Snapshot) : Type 0 where
  pub read : read_snapshot body ≡ Ok state
  pub allowed : IsAllowedState state

abbrev pub TellsNoState : List ℕ → (gate : ℕ) → ReplayFault → Type 0
TellsNoState body gate (faults.NotAStore at) = (wrong : ℕ) × (read_snapshot body ≡ Err wrong) × (at ≡ gate + 5 + wrong)
TellsNoState body gate faults.Disk = ⊥
TellsNoState body gate faults.Memory = ⊤

-- The body spells a linked state, and this is what it keeps.
pub record IsBegunBy (body : List ℕ) (kept : Kept) : Type 0 where
  pub state : Snapshot
  pub read : read_snapshot body ≡ Ok state
  pub linked : IsKeptLinked (kept_in state)
  pub same : kept ≡ kept_in state

-- The body behind this gate spells no state, and where; or the state isn't linked, and the gate is told.
abbrev pub FailsFirstBody : List ℕ → (gate : ℕ) → (at : ℕ) → Type 0
FailsFirstBody body gate at =
    ((wrong : ℕ) × (read_snapshot body ≡ Err wrong) × (at ≡ gate + 5 + wrong))
    ⊎ ((state : Snapshot) × (read_snapshot body ≡ Ok state) × (IsKeptLinked (kept_in state) → ⊥) × (at ≡ gate))

abbrev pub TellsFirstBody : List ℕ → (gate : ℕ) → ReplayFault → Type 0
TellsFirstBody body gate (faults.NotAStore at) = FailsFirstBody body gate at
TellsFirstBody body gate faults.Disk = ⊥
TellsFirstBody body gate faults.Memory = ⊤

-- The first record is read, and this is what it leaves; or the journal is none of a store, and this is the first place.
abbrev pub IsFirstRead : List JournalRecord → JournalEnd → Result Begun ReplayFault → Type 0
IsFirstRead records ending (Ok begun) =
    (left : Replayed) × (left.kept ≡ held begun.stacks begun.versions) × IsReplayed records ending begun.next left None
IsFirstRead records ending (Err (faults.NotAStore at)) = Gives records ending (NoStoreAt at)
IsFirstRead records ending (Err faults.Disk) = ⊤
IsFirstRead records ending (Err faults.Memory) = ⊤

abbrev pub GivesFirstRead : Option Standing → Area → Result Begun ReplayFault → Type 0
GivesFirstRead told area result =
    WhereTold told (λ s. (records : List JournalRecord) (ending : JournalEnd) → Reads (area_of area s.reading) records ending → IsFirstRead records ending result)
