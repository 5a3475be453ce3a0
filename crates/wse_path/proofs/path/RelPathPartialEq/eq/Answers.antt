use Rattle.std.proofs.Common.{◌≡◌, string_bytes, nat_eq}
use Rattle.std.proofs.lemmas.Slice.Eq.{slice_eq-Decides, bytes_eq-Decides}
use Rattle.std.specs.Cmp.Lexicographic.{pointwise}
use Rattle.wse_path.proofs.PathLemmas.{pointwise_map}
use Rattle.wse_path.proofs.path.RelPathPartialEq.eq.Goals as goal

pub returns : goal.returns
returns c =
    let is : c.eq.result ≡ pointwise (pointwise nat_eq) c.args.self.now c.args.other.now =
    rw (← c.self.view_is, ← c.other.view_is, pointwise_map (pointwise nat_eq) (λ s. string_bytes s) c.self.inside.segments.items c.other.inside.segments.items) c.eq.ensures in
    record { eq = is; same = slice_eq-Decides bytes_eq-Decides _ _ _ is }
