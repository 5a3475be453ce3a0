-- Which journal the switch chooses.
use Rattle.std.specs.Prelude.{◌≡◌, ℕ, List, ◌∷◌, Option}
use Rattle.wse_disk.specs.declared.area.Area.{Area}
use Rattle.wse_disk.specs.Standing.{Standing}
use Rattle.wse_disk.specs.Told.{WhereTold}
use Rattle.wse_txn.specs.Stands.{chosen}

-- This is the first byte of the switch.
abbrev pub ReadsSwitch : Option Standing → ℕ → Type 0
ReadsSwitch told byte = WhereTold told (λ s. (rest : List ℕ) × (s.reading.switch ≡ byte ∷ rest))

-- This is the journal that the switch chooses.
abbrev pub ReadsChosen : Option Standing → Area → Type 0
ReadsChosen told area = WhereTold told (λ s. area ≡ chosen s.reading)
