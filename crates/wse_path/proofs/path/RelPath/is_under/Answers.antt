use Rattle.std.proofs.Common.{◌<◌, arith, string_bytes, length}
use Rattle.std.specs.Str.{bytes_eq}
use Rattle.wse_path.proofs.PathLemmas.{under_is, starts_with_map, length_mapped}
use Rattle.wse_path.proofs.path.RelPath.is_under.Goals as goal

pub returns-then-len : goal.returns-then-len
returns-then-len c =
    let shorter : length c.other.inside.segments.items < length c.self.inside.segments.items = omega arith in
    under_is c.args.self.now c.args.other.now c.starts_with.result
    (rw (← c.self.view_is, ← c.other.view_is, length_mapped (λ s. string_bytes s) c.self.inside.segments.items, length_mapped (λ s. string_bytes s) c.other.inside.segments.items) shorter)
    (rw (← c.self.view_is, ← c.other.view_is, starts_with_map bytes_eq (λ s. string_bytes s) c.self.inside.segments.items c.other.inside.segments.items, ← c.deref.ensures.value, ← c.deref-then-len.ensures.value) c.starts_with.ensures.value)
