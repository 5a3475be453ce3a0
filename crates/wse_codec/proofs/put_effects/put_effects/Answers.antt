use Rattle.wse_codec.specs.Allowed.{IsAllowedEffect}
use Rattle.wse_codec.specs.Spelling.{effect_bytes}
use Rattle.wse_codec.proofs.WrittenLemmas.{put_step, item_short}
use Rattle.wse_codec.proofs.put_effects.put_effects.Goals as goal

pub put_effect-requires-clause-short : goal.put_effect-requires-clause-short
put_effect-requires-clause-short c = item_short effect_bytes c.args.effects.now c.loop-effect.effect-index c.effect-item.result c.loop-effect-test.true c.effect-item.is c.requires.short

pub loop-effect-preserved : goal.loop-effect-preserved
loop-effect-preserved c =
    put_step effect_bytes IsAllowedEffect c.args.effects.now c.loop-effect.effect-index c.effect-item.result c.args.out.now.items c.loop-effect.out.items c.put_effect.new.out.items
    c.loop-effect-test.true c.effect-item.is c.in_ok-put_effect.ensures.spelled c.in_ok-put_effect.ensures.allowed c.loop-effect.invariant
