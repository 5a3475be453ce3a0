use Rattle.wse_codec.specs.Reading.{version_behind}
use Rattle.wse_codec.proofs.LoopLemmas.{SoFar}
use Rattle.wse_codec.proofs.versions.take_version_row.Given as goal

abbrev pub invariant-loop : goal.invariant-loop
invariant-loop l = SoFar version_behind (l.versions.items) l.count l.counter l.rest l.bytes
