-- Ids that leave room for others. This project's own rule.
use Rattle.std.specs.Prelude.{◌<◌, ◌^◌, ⊤}
use Rattle.wse_element.specs.declared.effect.Effect.{Effect}
use Rattle.wse_element.specs.declared.effect.Effect.TheVariants.{Split}

-- The first id that a split gives out is far below the largest number of 64 bits.
abbrev pub HasLowIds : Effect → Type 0
HasLowIds (Split id first) = first < 2 ^ 63
HasLowIds _ = ⊤
