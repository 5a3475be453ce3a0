-- Taking what is found in the tree as it is. This project's own rule.
use Rattle.std.specs.Prelude.{◌≡◌, List, [], ◌∷◌, flat_map, Option}
use Rattle.std.specs.Option.{option_or}
use Rattle.wse_path.specs.Path.{Path}
use Rattle.wse_path.specs.Versions.{known}
use Rattle.wse_path.specs.declared.limits.Limits.{Limits}
use Rattle.wse_path.specs.declared.limits.Hit.{Hit}
use Rattle.wse_path.specs.declared.limits.Which.TheVariants.{Serial, Known}
use Rattle.wse_element.specs.declared.effect.Effect.{Effect}
use Rattle.wse_element.specs.declared.effect.Effect.TheVariants.{Invalidate, Bump}
use Rattle.wse_element.specs.State.{State}
use Rattle.wse_element.specs.Effects.{state_after}
use Rattle.wse_apply.specs.Limit.{hit_above}
use Rattle.wse_recover.specs.Differing.{AreDiffering}

-- At each of the paths what is live becomes invalid, and the version rises by one.
abbrev pub adopting : List Path → List Effect
adopting paths = flat_map (λ p. Invalidate p ∷ Bump p 1 ∷ []) paths

-- That is one record, and none where there are no paths.
abbrev pub adopted_at : List Path → State → State
adopted_at [] s = s
adopted_at (p ∷ paths) s = state_after s (adopting (p ∷ paths))

-- The second state is the first, adopted at the paths at which its tree isn't as its records say.
abbrev pub IsAdopted : State → State → Type 0
IsAdopted s t = (paths : List Path) × AreDiffering s.files s.records paths × (t ≡ adopted_at paths s)

-- The first limit that the adopted state passes: what is known, then the serial number.
abbrev pub adopting_hit : Limits → State → Option Hit
adopting_hit limits t = option_or (hit_above Known limits.known (known t.versions)) (hit_above Serial limits.serial t.serial)
