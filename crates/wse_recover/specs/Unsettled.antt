-- A last record that isn't settled.
use Rattle.std.specs.Prelude.{◌≡◌, ◌≢◌, ℕ, Bool, true, false, List, [], ◌∷◌, ◌++◌, Option, Some, None, IfSome}
use Rattle.wse_element.specs.declared.effect.Effect.{Effect}
use Rattle.wse_element.specs.State.{StacksState}
use Rattle.wse_codec.specs.Spelling.{record_bytes}
use Rattle.wse_log.specs.Grammar.{JournalRecord, settled_byte}
use Rattle.wse_txn.specs.Replay.{Replayed, sets_each}
use Rattle.wse_txn.specs.Stands.{ends_settled}
use Rattle.wse_recover.specs.Sets.{AreToCome}
use Rattle.wse_recover.specs.declared.unsettled.Unsettled.{Unsettled}

-- These are the effects, and this is what they set behind the others.
pub record IsOf (h : StacksState) (effects : List Effect) (last : Unsettled) : Type 0 where
  pub effects_are : last.effects ≡ effects
  pub sets_are : last.sets ≡ sets_each h effects
  pub come : AreToCome last.sets

-- What it sets can be set.
abbrev pub MayBeFinished : Option Unsettled → Type 0
MayBeFinished last = IfSome last (λ l. AreToCome l.sets)

-- None is kept of a settled record.
abbrev pub IsKeptOf : (settled : Bool) → StacksState → List Effect → Option Unsettled → Type 0
IsKeptOf settled h effects None = settled ≡ true
IsKeptOf settled h effects (Some last) = (settled ≡ false) × IsOf h effects last

-- The records end with one that isn't settled. It has these effects, and this is what they set.
pub record IsUnsettled (records : List JournalRecord) (left : Replayed) (last : Unsettled) : Type 0 where
  pub before : List JournalRecord
  pub mark : ℕ
  pub some : before ≢ []
  pub unsettled : mark ≢ settled_byte
  pub all : records ≡ before ++ record { body = record_bytes last.effects; mark = mark } ∷ []
  pub sets_are : last.sets ≡ left.sets

-- None is told where the records end settled.
abbrev pub IsLast : List JournalRecord → Replayed → Option Unsettled → Type 0
IsLast records left None = ends_settled records ≡ true
IsLast records left (Some last) = (ends_settled records ≡ false) × IsUnsettled records left last
