-- Effects that were read from few bytes may be written.
use Rattle.std.proofs.Common.{◌≡◌, ℕ, ◌^◌, ◌<◌, ◌≤◌, List, length, ap, arith}
use Rattle.wse_element.specs.declared.effect.Effect.{Effect}
use Rattle.wse_codec.specs.Spelling.{record_bytes}
use Rattle.wse_codec.specs.Allowed.{IsAllowedRecord, IsSpellable}
use Rattle.wse_codec.proofs.SpellableLemmas.{spellable}

pub writable : (body : List ℕ) (effects : List Effect) → length body ≤ 2000 → IsAllowedRecord effects → body ≡ record_bytes effects → IsSpellable effects
writable body effects few allowed spelled = spellable effects allowed (omega (arith, few, ap length spelled))
