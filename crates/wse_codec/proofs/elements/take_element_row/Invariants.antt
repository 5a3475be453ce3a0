use Rattle.wse_codec.specs.Reading.{element_at}
use Rattle.wse_codec.proofs.LoopLemmas.{SoFar}
use Rattle.wse_codec.proofs.elements.take_element_row.Given as goal

abbrev pub invariant-loop : goal.invariant-loop
invariant-loop l = SoFar (λ last. element_at) (l.elements.items) l.count l.counter l.rest l.bytes
