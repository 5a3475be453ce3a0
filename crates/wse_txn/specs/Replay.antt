-- What the records of a journal say, one after the other. This project's own format.
use Rattle.std.specs.Prelude.{◌≡◌, ◌≢◌, ◌⊎◌, ℕ, ◌+◌, List, [], ◌∷◌, ◌++◌, None, Result, Ok, Err}
use Rattle.wse_path.specs.Path.{Path}
use Rattle.wse_element.specs.declared.effect.Effect.{Effect}
use Rattle.wse_element.specs.Content.{Content}
use Rattle.wse_element.specs.State.{StacksState, Kept, stacks_of}
use Rattle.wse_element.specs.Effects.{after, contents_set, kept_after}
use Rattle.wse_element.specs.Applicable.{first_refused_of_kept}
use Rattle.wse_element.specs.Linked.{IsKeptLinked}
use Rattle.wse_codec.specs.declared.snapshot.Snapshot.{Snapshot}
use Rattle.wse_codec.specs.Allowed.{numbers_of}
use Rattle.wse_codec.specs.Reading.{read_effects, read_snapshot}
use Rattle.wse_log.specs.Grammar.{JournalRecord, JournalEnd, ClosedAt, BrokenAt}
use Rattle.wse_log.specs.Writing.{next_gate}

-- The paths that effects set, one effect after the other, each with what it has then.
abbrev pub sets_each : StacksState → List Effect → List (Path × Content)
sets_each h [] = []
sets_each h (effect ∷ more) = contents_set h.records effect ++ sets_each (after h effect) more

-- What the records so far leave: what is kept, and what the last of them sets in the tree.
pub record Replayed : Type 0 where
  pub kept : Kept
  pub sets : List (Path × Content)

abbrev pub replayed : Kept → List Effect → Replayed
replayed kept effects = record { kept = kept_after kept effects; sets = sets_each (stacks_of kept) effects }

-- What a journal gives, record by record: what all of them leave, or the first place at which it is no store.
pub data Given : Type 0 where
  Leaves : (left : Replayed) → Given
  NoStoreAt : (place : ℕ) → Given

-- The next record, behind the gate at this place, spells effects that are applicable, and what they leave goes on so. Or it
-- fails there.
abbrev pub GivesNext : Kept → (gate : ℕ) → Result (List Effect) ℕ → (Replayed → Type 0) → Given → Type 0
GivesNext kept gate (Err at) GoesOn given = given ≡ NoStoreAt (gate + 5 + at)
GivesNext kept gate (Ok effects) GoesOn given =
    ((first_refused_of_kept kept effects ≡ None) × GoesOn (replayed kept effects))
    ⊎ ((first_refused_of_kept kept effects ≢ None) × (given ≡ NoStoreAt gate))

-- What these records and this end give behind what is left so far, where the next gate stands at this place.
abbrev pub GivesBehind : Replayed → (gate : ℕ) → List JournalRecord → JournalEnd → Given → Type 0
GivesBehind left gate [] (ClosedAt end) given = given ≡ Leaves left
GivesBehind left gate [] (BrokenAt place) given = given ≡ NoStoreAt place
GivesBehind left gate (r ∷ more) ending given =
    GivesNext left.kept gate (read_effects r.body) (λ next. GivesBehind next (next_gate gate r.body) more ending given) given

-- What a journal's first record says is kept.
abbrev pub kept_in : Snapshot → Kept
kept_in s = record { versions = numbers_of s.versions; records = s.elements; next_id = s.next_id; serial = s.serial }

abbrev pub begun_with : Snapshot → Replayed
begun_with s = record { kept = kept_in s; sets = [] }

-- The first record, behind the gate at place 8, spells a state that is linked, and that goes on so. Or it fails there.
abbrev pub GivesFirst : Result Snapshot ℕ → (Replayed → Type 0) → Given → Type 0
GivesFirst (Err at) GoesOn given = given ≡ NoStoreAt (13 + at)
GivesFirst (Ok s) GoesOn given = (IsKeptLinked (kept_in s) × GoesOn (begun_with s)) ⊎ ((IsKeptLinked (kept_in s) → ⊥) × (given ≡ NoStoreAt 8))

-- What the records of a journal and its end give. A journal that ends well has a record.
abbrev pub Gives : List JournalRecord → JournalEnd → Given → Type 0
Gives [] (ClosedAt end) given = ⊥
Gives [] (BrokenAt place) given = given ≡ NoStoreAt place
Gives (r ∷ more) ending given = GivesFirst (read_snapshot r.body) (λ left. GivesBehind left (next_gate 8 r.body) more ending given) given
