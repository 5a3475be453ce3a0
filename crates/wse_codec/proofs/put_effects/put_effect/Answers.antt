use Rattle.std.proofs.Common.{◌^◌, ◌<◌, length, subst}
use Rattle.wse_element.specs.declared.effect.Effect.{Effect}
use Rattle.wse_codec.specs.Spelling.{effect_bytes}
use Rattle.wse_codec.proofs.ShortLemmas.{set_short}
use Rattle.wse_codec.proofs.put_effects.put_effect.Goals as goal

pub put_content-requires : goal.put_content-requires
put_content-requires c = set_short c.in-Set.path c.in-Set.content (subst (λ (e : Effect). length (effect_bytes e) < 2 ^ 32) c.in-Set.is c.requires.short)
