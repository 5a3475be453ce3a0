-- When two refusals of resource operations are the same.
use Rattle.std.specs.Prelude.{ℕ, Bool, List, [], ◌∷◌, nat_eq}
use Rattle.std.specs.Cmp.Lexicographic.{pointwise}
use Rattle.std.specs.Ordering.{on}
use Rattle.wse_resource.specs.declared.refused.OpRefused.{OpRefused}
use Rattle.wse_resource.specs.declared.refused.OpRefused.TheVariants as ops

-- The cause by its place in the list of causes, and behind it the segments of the path that is named.
abbrev pub parts_of : OpRefused → List (List ℕ)
parts_of ops.Exists = (0 ∷ []) ∷ []
parts_of ops.IsFolder = (1 ∷ []) ∷ []
parts_of (ops.Beneath file) = (2 ∷ []) ∷ file
parts_of ops.NotFound = (3 ∷ []) ∷ []
parts_of ops.NotEmpty = (4 ∷ []) ∷ []
parts_of ops.IntoItself = (5 ∷ []) ∷ []
parts_of ops.HoldsSource = (6 ∷ []) ∷ []
parts_of (ops.PathLimit from) = (7 ∷ []) ∷ from
parts_of ops.Memory = (8 ∷ []) ∷ []

-- The same cause, and the same path.
abbrev pub is_same : OpRefused → OpRefused → Bool
is_same = on parts_of (pointwise (pointwise nat_eq))
