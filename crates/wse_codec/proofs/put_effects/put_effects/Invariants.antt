use Rattle.wse_codec.specs.Allowed.{IsAllowedEffect}
use Rattle.wse_codec.specs.Spelling.{effect_bytes}
use Rattle.wse_codec.proofs.WrittenLemmas.{IsSpelledSoFar}
use Rattle.wse_codec.proofs.put_effects.put_effects.Given as goal

abbrev pub invariant-loop-effect : goal.invariant-loop-effect
invariant-loop-effect l = IsSpelledSoFar effect_bytes IsAllowedEffect l.effects l.effect-index l.initial.out.items l.out.items
