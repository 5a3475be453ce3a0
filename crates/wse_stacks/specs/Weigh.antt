-- What the effects of one command leave of each record, for its weight alone. This project's own rule.
use Rattle.std.specs.Prelude.{Bool, true, false, not, ◌||◌, List, [], ◌∷◌, ◌++◌}
use Rattle.wse_element.specs.declared.effect.Effect.{Effect}
use Rattle.wse_element.specs.declared.effect.Effect.TheVariants.{Push, Split, Drop}
use Rattle.wse_element.specs.Record.{Record}
use Rattle.wse_element.specs.Live.{is_live_at, has_live}
use Rattle.wse_element.specs.Stacks.{has_id}
use Rattle.wse_stacks.specs.Image.{images}

-- What one effect after another leaves of these records.
abbrev pub images_each : List Effect → List Record → List Record
images_each [] records = records
images_each (effect ∷ more) records = images_each more (images effect records)

abbrev pub pushed_by : Effect → List Record
pushed_by (Push element) = element ∷ []
pushed_by _ = []

-- What those behind it leave of each new record.
abbrev pub brought : List Effect → List Record
brought [] = []
brought (effect ∷ more) = images_each more (pushed_by effect) ++ brought more

-- The effect may take from what records count for.
abbrev pub takes : Effect → Bool
takes (Split id first) = true
takes (Drop path reason) = true
takes _ = false

-- It may take from what this one counts for.
abbrev pub loses : Record → Effect → Bool
loses r (Split id first) = has_id id r
loses r (Drop path reason) = is_live_at path r || not (has_live r)
loses r _ = false
