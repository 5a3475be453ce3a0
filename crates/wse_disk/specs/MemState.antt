-- What a disk in memory is, and what its calls leave. This project's own rule.
use Rattle.std.specs.Prelude.{◌≡◌, ℕ, Bool, ◌||◌, List, [], ◌∷◌, ◌++◌, length, if◌then◌else◌, Option, None, Result, is_err}
use Rattle.std.proofs.Props.{props}
use Rattle.wse_path.specs.Tree.{IsTree}
use Rattle.wse_disk.specs.Reading.{Reading}
use Rattle.wse_disk.specs.Standing.{Standing, IsImageOf, fresh}
use Rattle.wse_disk.specs.declared.call.Call.{Call}
use Rattle.wse_disk.specs.declared.draft.Draft.{Draft}
use Rattle.wse_disk.specs.Replay.{replay, pending_at, first_of}
use Rattle.wse_disk.specs.CallCounts.{CallState, next_fails, called, finished}

-- What is read is an image, what was read after each sync is a tree, and each call is a moment.
pub record KeepsImages (first : Reading) (calls : List Call) : Type 0 where
  pub stays : IsImageOf (replay (fresh first) calls).pending (replay (fresh first) calls).reading
  pub bases : (moment : ℕ) → IsTree (pending_at (replay (fresh first) calls) moment).base.files
  pub counted : length calls ≡ length (replay (fresh first) calls).past

pub KeepsImages-prop : (first : Reading) (calls : List Call) → IsProp (KeepsImages first calls)
KeepsImages-prop first calls = hlevel props

-- What it had at first, the calls that changed it or made it last, and the counts of all its calls.
pub record MemState : Type 0 where
  pub first : Reading
  pub calls : List Call
  pub counts : CallState
  pub sound : KeepsImages first calls

-- What it stands for.
abbrev pub standing : MemState → Standing
standing d = replay (fresh d.first) d.calls

-- What it holds.
abbrev pub reading : MemState → Reading
reading d = (standing d).reading

-- What is held is what the calls leave, and before the first of them nothing is to be made.
pub record IsHeld {C : Type 0} (first : Option Draft) (now : Reading) (calls : List Call) (to_make : List C) : Type 0 where
  pub same : now ≡ (replay (fresh (first_of first now)) calls).reading
  pub begun : first ≡ None → (calls ≡ []) × (to_make ≡ [])

-- All stays.
pub record IsUnchanged (old new : MemState) : Type 0 where
  pub counts : new.counts ≡ old.counts
  pub first : new.first ≡ old.first
  pub calls : new.calls ≡ old.calls

-- A call that changes nothing is counted, and all else stays.
pub record CountsOnly (old new : MemState) : Type 0 where
  pub counts : new.counts ≡ called old.counts
  pub first : new.first ≡ old.first
  pub calls : new.calls ≡ old.calls

-- A store, an erase, an area write or a sync. It fails where its number is in the list, and where it found no memory. It
-- stands in the record, with whether it failed; or it found no memory, and leaves no trace but the count.
pub record Notes {T E : Type 0} (call : Bool → Call) (old new : MemState) (result : Result T E) (no_memory : Bool) : Type 0 where
  pub failed : is_err result ≡ (no_memory || next_fails old.counts)
  pub counts : new.counts ≡ finished old.counts no_memory
  pub first : new.first ≡ old.first
  pub calls : new.calls ≡ (if no_memory then old.calls else old.calls ++ call (next_fails old.counts) ∷ [])

-- It holds this, and no call was made.
pub record IsFresh (d : MemState) (r : Reading) : Type 0 where
  pub first : d.first ≡ r
  pub calls : d.calls ≡ []
