-- What memory holds of a journal's first record.
use Rattle.std.specs.Prelude.{◌≡◌, ℕ, true}
use Rattle.wse_path.specs.Versions.{Numbers, VersionsState}
use Rattle.wse_element.specs.Linked.{IsKeptLinked}
use Rattle.wse_element.specs.Numbers.{are_versions_bounded, is_known_bounded}
use Rattle.wse_codec.specs.declared.snapshot.Snapshot.{Snapshot}
use Rattle.wse_stacks.specs.Stacks.{StacksNow}
use Rattle.wse_txn.specs.Replay.{kept_in}
use Rattle.wse_recover.specs.Held.{held}

-- These are the versions, and they are within their bounds.
pub record AreHeld (serial : ℕ) (numbers entries : Numbers) : Type 0 where
  pub same : entries ≡ numbers
  pub bounded : are_versions_bounded serial numbers ≡ true
  pub known : is_known_bounded numbers ≡ true

-- This is what the state says is kept, and it is linked.
pub record IsHeld (state : Snapshot) (stacks : StacksNow) (versions : VersionsState) : Type 0 where
  pub same : held stacks versions ≡ kept_in state
  pub linked : IsKeptLinked (kept_in state)
