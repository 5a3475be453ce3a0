-- No two values share a spelling.
use Rattle.std.specs.Prelude.{◌≡◌, List}
use Rattle.wse_element.specs.declared.effect.Effect.{Effect}
use Rattle.wse_codec.specs.declared.snapshot.Snapshot.{Snapshot}
use Rattle.wse_codec.specs.Spelling.{record_bytes, state_bytes}
use Rattle.wse_codec.specs.Allowed.{IsAllowedRecord, IsAllowedState}

-- Of two lists of effects, and of two states.
pub record IsOneSpelling : Type 0 where
  pub records : (a b : List Effect) → IsAllowedRecord a → IsAllowedRecord b → record_bytes a ≡ record_bytes b → a ≡ b
  pub states : (a b : Snapshot) → IsAllowedState a → IsAllowedState b → state_bytes a ≡ state_bytes b → a ≡ b
