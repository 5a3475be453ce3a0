-- What was read may be written again.
use Rattle.std.proofs.Common.{◌≡◌, ℕ, ◌^◌, ◌<◌, ◌≤◌, List, length, ap, arith}
use Rattle.wse_element.specs.declared.effect.Effect.{Effect}
use Rattle.wse_codec.specs.Spelling.{record_bytes}
use Rattle.wse_codec.specs.Allowed.{IsAllowedRecord, IsSpellable}
use Rattle.wse_codec.proofs.SpellableLemmas.{spellable}

pub writable : (body : List ℕ) (effects : List Effect) → length body ≤ 2000 → IsAllowedRecord effects → body ≡ record_bytes effects → IsSpellable effects
writable body effects short h e = spellable effects h (omega (arith, short, ap length e))
