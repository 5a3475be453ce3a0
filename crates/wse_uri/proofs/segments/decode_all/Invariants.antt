use Rattle.std.proofs.Common.{◌≡◌, map, take}
use Rattle.percent_encoding.specs.Percent.{percent_decode}
use Rattle.wse_uri.specs.Segments.{bytes_in}
use Rattle.wse_uri.proofs.segments.decode_all.Given as goal

abbrev pub invariant-loop-part : goal.invariant-loop-part
invariant-loop-part l = bytes_in l.segments.items ≡ map percent_decode (map (λ part. part.now) (take l.part-index l.parts))
