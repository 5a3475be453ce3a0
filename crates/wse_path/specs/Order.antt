-- The order of paths.
use Rattle.std.specs.Prelude.{List, Bool, ℕ, nat_eq}
use Rattle.std.specs.List.{list_any}
use Rattle.std.proofs.Common.{ap, sym}
use Rattle.std.specs.Hash as fed
use Rattle.std.specs.Hash.{Alike}
use Rattle.std.specs.Cmp.Lexicographic.{pointwise, same_text}
use Rattle.std.specs.declared.cmp.Ordering.{Ordering}
use Rattle.std.specs.Ordering.{nat_cmp, eq_by_cmp}
use Rattle.std.specs.Cmp.Lexicographic.{slice_cmp}

-- Segment by segment, each by its bytes.
abbrev pub path_cmp : List (List ℕ) → List (List ℕ) → Ordering
path_cmp = slice_cmp (slice_cmp nat_cmp)

-- The path is one of these.
abbrev pub is_named : List (List (List ℕ)) → List (List ℕ) → Bool
is_named paths p = list_any (λ q. eq_by_cmp path_cmp p q) paths

-- equal texts are hashed alike
pub texts_alike : Alike (pointwise nat_eq) fed.str
texts_alike = record { fed = λ x y e. ap fed.str (same_text x y (sym e)) }
