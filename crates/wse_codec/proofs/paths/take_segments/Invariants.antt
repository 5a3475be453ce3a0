use Rattle.wse_codec.specs.Reading.{segment_at}
use Rattle.wse_codec.specs.Gives.{bytes_in}
use Rattle.wse_codec.proofs.LoopLemmas.{SoFar}
use Rattle.wse_codec.proofs.paths.take_segments.Given as goal

abbrev pub invariant-loop : goal.invariant-loop
invariant-loop l = SoFar (λ last. segment_at) (bytes_in l.segments.items) l.count l.counter l.rest l.bytes
