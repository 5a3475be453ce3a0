-- What records give, one by one. This project's own format.
use Rattle.std.specs.Prelude.{◌≡◌, ◌≢◌, ℕ, true, List, Ok, None, Result}
use Rattle.wse_element.specs.declared.effect.Effect.{Effect}
use Rattle.wse_element.specs.State.{Kept, stacks_of}
use Rattle.wse_element.specs.Numbers.{is_bounded}
use Rattle.wse_element.specs.Applicable.{first_refused_of_kept}
use Rattle.wse_element.specs.Linked.{IsKeptLinked}
use Rattle.wse_codec.specs.declared.snapshot.Snapshot.{Snapshot}
use Rattle.wse_codec.specs.Reading.{read_effects, read_snapshot}
use Rattle.wse_log.specs.Grammar.{JournalRecord, JournalEnd, ClosedAt}
use Rattle.wse_txn.specs.Replay as definitions
use Rattle.wse_txn.specs.Replay.{Replayed, replayed, kept_in, begun_with, GivesFirst, GivesNext, GivesBehind, Gives}
use Rattle.wse_slow_reader.specs.declared.given.Given.{Given}
use Rattle.wse_slow_reader.specs.declared.given.Given.TheVariants.{Leaves, NoStore}

-- What the state says is kept is linked, and left. Or it fails at the first gate.
abbrev pub IsBegun : Snapshot → Given → Type 0
IsBegun s (Leaves left) = IsKeptLinked (kept_in s) × (left ≡ begun_with s)
IsBegun s (NoStore at) = (IsKeptLinked (kept_in s) → ⊥) × (at ≡ 8)

-- The effects are applicable, and this is what they leave, within its bounds. Or their record fails at its gate.
abbrev pub IsEntered : Kept → (gate : ℕ) → List Effect → Given → Type 0
IsEntered kept gate effects (Leaves left) = (first_refused_of_kept kept effects ≡ None) × (left ≡ replayed kept effects) × (is_bounded (stacks_of left.kept) ≡ true)
IsEntered kept gate effects (NoStore at) = (first_refused_of_kept kept effects ≢ None) × (at ≡ gate)

-- The first record spells a state that is linked, which is left. Or it fails there.
abbrev pub IsFirst : List ℕ → Given → Type 0
IsFirst body (Leaves left) = (s : Snapshot) × (read_snapshot body ≡ Ok s) × IsKeptLinked (kept_in s) × (left ≡ begun_with s)
IsFirst body (NoStore at) = GivesFirst (read_snapshot body) (λ _. ⊥) (definitions.NoStoreAt at)

-- The record spells effects that are applicable, and this is what they leave, within its bounds. Or it fails there.
abbrev pub IsNext : Kept → (gate : ℕ) → List ℕ → Given → Type 0
IsNext kept gate body (Leaves left) =
    (effects : List Effect) × (read_effects body ≡ Ok effects) × (first_refused_of_kept kept effects ≡ None) × (left ≡ replayed kept effects)
    × (is_bounded (stacks_of left.kept) ≡ true)
IsNext kept gate body (NoStore at) = GivesNext kept gate (read_effects body) (λ _. ⊥) (definitions.NoStoreAt at)

-- The journal ends well, and its records leave this. Or it is no store's, and where.
abbrev pub IsGiven : List JournalRecord → JournalEnd → Given → Type 0
IsGiven records ending (Leaves left) = ((gate : ℕ) × (ending ≡ ClosedAt gate)) × Gives records ending (definitions.Leaves left)
IsGiven records ending (NoStore at) = Gives records ending (definitions.NoStoreAt at)

-- The same of the records behind what is left so far, where the next gate stands at this place.
abbrev pub IsGivenBehind : Replayed → (place : ℕ) → List JournalRecord → JournalEnd → Given → Type 0
IsGivenBehind begun place records ending (Leaves left) = ((gate : ℕ) × (ending ≡ ClosedAt gate)) × GivesBehind begun place records ending (definitions.Leaves left)
IsGivenBehind begun place records ending (NoStore at) = GivesBehind begun place records ending (definitions.NoStoreAt at)
