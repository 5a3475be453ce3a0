-- One round of reading a journal.
use Rattle.std.specs.Prelude.{Bool, ◌≡◌, ◌≢◌, ◌⊎◌, ⊤, ℕ, ◌+◌, ◌<◌, ◌^◌, List, None, Option, Result, Ok, Err}
use Rattle.wse_disk.specs.declared.area.Area.{Area}
use Rattle.wse_disk.specs.Reading.{area_of}
use Rattle.wse_disk.specs.Standing.{Standing}
use Rattle.wse_disk.specs.Told.{WhereTold}
use Rattle.wse_element.specs.declared.effect.Effect.{Effect}
use Rattle.wse_element.specs.State.{Kept, stacks_of}
use Rattle.wse_element.specs.Effects.{kept_after}
use Rattle.wse_element.specs.Applicable.{first_refused_of_kept}
use Rattle.wse_codec.specs.Reading.{read_effects}
use Rattle.wse_codec.specs.Spelling.{record_bytes}
use Rattle.wse_log.specs.Grammar.{JournalRecord, JournalEnd, ClosedAt, Reads}
use Rattle.wse_txn.specs.Replay.{Replayed, replayed, Leaves, NoStoreAt, Gives}
use Rattle.wse_recover.specs.Replaying.{IsReplayed}
use Rattle.wse_recover.specs.declared.fault.ReplayFault.{ReplayFault}
use Rattle.wse_recover.specs.declared.fault.ReplayFault.TheVariants as faults
use Rattle.wse_recover.specs.declared.unsettled.Unsettled.{Unsettled}
use Rattle.wse_recover.specs.Unsettled.{IsKeptOf, IsLast, MayBeFinished}
use Rattle.wse_recover.specs.declared.fault.Round.{Round}
use Rattle.wse_recover.specs.declared.fault.Round.TheVariants.{Entered, Ended}

-- The body spells effects that are applicable, and this is what they leave, and what is kept of them.
pub record Enters (settled : Bool) (kept : Kept) (body : List ℕ) (new : Kept) (last : Option Unsettled) : Type 0 where
  pub effects : List Effect
  pub read : read_effects body ≡ Ok effects
  pub spelled : body ≡ record_bytes effects
  pub may : first_refused_of_kept kept effects ≡ None
  pub left : new ≡ kept_after kept effects
  pub ends : IsKeptOf settled (stacks_of kept) effects last

-- The body behind this gate spells none, and where; or one isn't applicable, and the gate is told.
abbrev pub FailsBody : Kept → List ℕ → (gate : ℕ) → (at : ℕ) → Type 0
FailsBody kept body gate at =
    ((wrong : ℕ) × (read_effects body ≡ Err wrong) × (at ≡ gate + 5 + wrong))
    ⊎ ((effects : List Effect) × (read_effects body ≡ Ok effects) × (first_refused_of_kept kept effects ≢ None) × (at ≡ gate))

abbrev pub TellsBody : Kept → List ℕ → (gate : ℕ) → ReplayFault → Type 0
TellsBody kept body gate (faults.NotAStore at) = FailsBody kept body gate at
TellsBody kept body gate faults.Disk = ⊤
TellsBody kept body gate faults.Memory = ⊤

-- One record more is read; or the journal ends; or it is none, and this is the first place.
abbrev pub IsRound : List JournalRecord → JournalEnd → Replayed → (last : Option Unsettled) → Kept → Result Round ReplayFault → Type 0
IsRound records ending left last new (Ok (Entered kept next)) =
    (effects : List Effect) × (new ≡ kept_after left.kept effects) × IsReplayed records ending next (replayed left.kept effects) kept
IsRound records ending left last new (Ok (Ended gate)) = (ending ≡ ClosedAt gate) × (new ≡ left.kept) × Gives records ending (Leaves left) × IsLast records left last
IsRound records ending left last new (Err (faults.NotAStore at)) = Gives records ending (NoStoreAt at)
IsRound records ending left last new (Err faults.Disk) = ⊤
IsRound records ending left last new (Err faults.Memory) = ⊤

abbrev pub GivesRound : Option Standing → Area → (place : ℕ) → (old new : Kept) → Result Round ReplayFault → Type 0
GivesRound told area place old new result =
    WhereTold told (λ s. (records : List JournalRecord) (ending : JournalEnd) → Reads (area_of area s.reading) records ending
    → (left : Replayed) (last : Option Unsettled) → left.kept ≡ old → IsReplayed records ending place left last → IsRound records ending left last new result)

-- The place rises, and stays below 2^63. So is that of the end.
abbrev pub Rises : (place : ℕ) → Round → Type 0
Rises place (Entered last next) = (place < next) × (next < 2 ^ 63)
Rises place (Ended gate) = (gate ≡ place) × (gate < 2 ^ 63)

abbrev pub place_behind : Round → ℕ
place_behind (Entered last next) = next
place_behind (Ended gate) = gate

-- What an unsettled record sets can be set.
abbrev pub RoundMayBeFinished : Round → Type 0
RoundMayBeFinished (Entered last next) = MayBeFinished last
RoundMayBeFinished (Ended gate) = ⊤
