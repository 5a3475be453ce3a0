-- What the types of paths, labels and elements keep of effects. This project's own rule.
use Rattle.std.specs.Prelude.{◌<◌, ◌^◌}
use Rattle.std.specs.List.{All}
use Rattle.wse_element.specs.declared.effect.Effect.{Effect}
use Rattle.wse_element.specs.declared.effect.Effect.TheVariants.{Push, MoveBack, MoveForward, Split, Drop, Invalidate, Bump, Set}
use Rattle.wse_element.specs.Record.{RecordPart, Record, IsBodyOf, AreParts}
use Rattle.wse_codec.specs.Allowed.{IsAllowedPath, IsAllowedLabel}

pub record IsWrittenPart (part : RecordPart) : Type 0 where
  pub path : IsAllowedPath part.path
  pub rule : IsBodyOf part.state part.body

pub record IsWrittenElement (r : Record) : Type 0 where
  pub id : r.id < 2 ^ 64
  pub origin : r.origin < 2 ^ 64
  pub label : IsAllowedLabel r.label
  pub parts : AreParts r.parts
  pub each : All IsWrittenPart r.parts

abbrev pub IsWrittenEffect : Effect → Type 0
IsWrittenEffect (Push element) = IsWrittenElement element
IsWrittenEffect (MoveBack id) = id < 2 ^ 64
IsWrittenEffect (MoveForward id) = id < 2 ^ 64
IsWrittenEffect (Split id first) = (id < 2 ^ 64) × (first < 2 ^ 64)
IsWrittenEffect (Drop path reason) = IsAllowedPath path
IsWrittenEffect (Invalidate path) = IsAllowedPath path
IsWrittenEffect (Bump path by) = IsAllowedPath path
IsWrittenEffect (Set path content) = IsAllowedPath path
