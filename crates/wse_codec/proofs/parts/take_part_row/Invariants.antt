use Rattle.wse_codec.specs.Reading.{part_behind}
use Rattle.wse_codec.proofs.LoopLemmas.{SoFar}
use Rattle.wse_codec.proofs.parts.take_part_row.Given as goal

abbrev pub invariant-loop : goal.invariant-loop
invariant-loop l = SoFar part_behind (l.parts.items) l.count l.counter l.rest l.bytes
