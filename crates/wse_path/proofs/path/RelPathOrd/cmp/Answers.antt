use Rattle.std.proofs.Common.{string_bytes}
use Rattle.std.specs.Ordering.{nat_cmp}
use Rattle.std.specs.Cmp.Lexicographic.{slice_cmp}
use Rattle.wse_path.proofs.PathLemmas.{slice_cmp_map}
use Rattle.wse_path.proofs.path.RelPathOrd.cmp.Goals as goal

pub returns : goal.returns
returns c = rw (← c.self.view_is, ← c.other.view_is, slice_cmp_map (slice_cmp nat_cmp) (λ s. string_bytes s) c.self.inside.segments.items c.other.inside.segments.items) c.cmp.ensures
