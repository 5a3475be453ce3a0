use Rattle.wse_codec.specs.Reading.{effect_at}
use Rattle.wse_codec.proofs.LoopLemmas.{SoFar}
use Rattle.wse_codec.proofs.effects.take_effects.Given as goal

abbrev pub invariant-loop : goal.invariant-loop
invariant-loop l = SoFar (λ last. effect_at) (l.effects.items) l.count l.counter l.rest l.bytes
