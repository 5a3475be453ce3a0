-- What reading a body answers.
use Rattle.std.specs.Prelude.{◌≡◌, ⊤, ℕ, ◌+◌, List, Ok, Err}
use Rattle.wse_element.specs.declared.effect.Effect.{Effect}
use Rattle.wse_codec.specs.Allowed.{IsAllowedRecord}
use Rattle.wse_codec.specs.Spelling.{record_bytes}
use Rattle.wse_codec.specs.Reading.{read_effects}
use Rattle.wse_recover.specs.declared.fault.ReplayFault.{ReplayFault}
use Rattle.wse_recover.specs.declared.fault.ReplayFault.TheVariants as faults

pub record IsReadAs (effects : List Effect) (body : List ℕ) : Type 0 where
  pub read : read_effects body ≡ Ok effects
  pub spelled : body ≡ record_bytes effects
  pub allowed : IsAllowedRecord effects

abbrev pub TellsUnread : List ℕ → (gate : ℕ) → ReplayFault → Type 0
TellsUnread body gate (faults.NotAStore at) = (wrong : ℕ) × (read_effects body ≡ Err wrong) × (at ≡ gate + 5 + wrong)
TellsUnread body gate faults.Disk = ⊥
TellsUnread body gate faults.Memory = ⊤
