-- What comes of an operation in two steps: what stands at its paths, and then the limits of the moved paths.
use Rattle.std.specs.Prelude.{Bool, is_some}
use Rattle.wse_path.specs.Path.{Path, refusal}
use Rattle.wse_path.specs.Tree.{Entries}
use Rattle.wse_path.specs.declared.operation.ResourceOp.{ResourceOp}
use Rattle.wse_path.specs.declared.operation.ResourceOp.TheVariants.{Create, Rename, Delete}
use Rattle.wse_resource.specs.declared.course.Course.{Course}
use Rattle.wse_resource.specs.declared.course.Course.TheVariants.{Stays, Goes}
use Rattle.wse_resource.specs.Table.{Outcome, moved, past_limit, unless_past_limit}
use Rattle.wse_resource.specs.Table.Outcome.{Nothing, Done}

-- A path at or under `from` is none any more where it goes when `from` becomes `to`.
abbrev pub is_past_limit : (from to : Path) → Path → Bool
is_past_limit from to q = is_some (refusal (moved from to q))

-- What the limits make of an operation that nothing else stops: a rename alone can pass one.
abbrev pub limit_outcome : Entries → ResourceOp → Outcome
limit_outcome files (Create p overwrite ignore) = Done
limit_outcome files (Rename from to overwrite ignore) = unless_past_limit (past_limit files from to)
limit_outcome files (Delete p recursive ignore) = Done

-- What comes of an operation that takes the course, where `last` is what the limits make of it.
abbrev pub outcome_by : Course → Outcome → Outcome
outcome_by Stays last = Nothing
outcome_by Goes last = last
