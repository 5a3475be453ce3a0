-- What an effect makes of one record of the list. This project's own rule.
use Rattle.std.specs.Prelude.{true, false, ◌<◌, ◌^◌, ⊤, List, [], ◌∷◌, flat_map, if◌then◌else◌}
use Rattle.wse_path.specs.Path.{Path}
use Rattle.wse_element.specs.declared.state.PartState.{PartState}
use Rattle.wse_element.specs.declared.state.PartState.TheVariants.{Live, Closed, Incompatible}
use Rattle.wse_element.specs.declared.effect.Effect.{Effect}
use Rattle.wse_element.specs.declared.effect.Effect.TheVariants.{Push, MoveBack, MoveForward, Split, Drop, Invalidate, Bump, Set}
use Rattle.wse_element.specs.Record.{Record}
use Rattle.wse_element.specs.Live.{has_live}
use Rattle.wse_element.specs.Losses.{lost_at, future_lost_at, invalid_at}
use Rattle.wse_element.specs.Split.{split_one}
use Rattle.wse_element.specs.Effects.{marked_one}

-- The record, unless it is live nowhere.
abbrev pub if_live : Record → List Record
if_live r = if has_live r then r ∷ [] else []

-- What is left of the record where its path is lost for this reason.
abbrev pub image_lost : Path → PartState → Record → List Record
image_lost path Live r = r ∷ []
image_lost path Closed r = if_live (lost_at path Closed r)
image_lost path Incompatible r = if_live (future_lost_at path r)

-- What stands in the record's place after the effect. A new record comes behind all others.
abbrev pub image : Effect → Record → List Record
image (Push element) r = r ∷ []
image (MoveBack id) r = marked_one id false r ∷ []
image (MoveForward id) r = marked_one id true r ∷ []
image (Split id first) r = split_one id first r
image (Drop path reason) r = image_lost path reason r
image (Invalidate path) r = invalid_at path r ∷ []
image (Bump path by) r = r ∷ []
image (Set path content) r = r ∷ []

abbrev pub images : Effect → List Record → List Record
images effect records = flat_map (image effect) records

-- A split's first id leaves room for the others.
abbrev pub IsSmall : Effect → Type 0
IsSmall (Split id first) = first < 2 ^ 63
IsSmall _ = ⊤
