use Rattle.wse_history.specs.Written.{IsWrittenEffect}
use Rattle.wse_history.proofs.LoopLemmas.{told_more, all_told}
use Rattle.wse_history.proofs.written.tell_effects.Goals as goal

pub loop-effect-preserved : goal.loop-effect-preserved
loop-effect-preserved c = told_more IsWrittenEffect c.args.effects.now c.loop-effect.effect-index c.effect-item.result c.loop-effect-test.true c.effect-item.is c.tell_effect.ensures c.loop-effect.invariant

pub returns : goal.returns
returns c = all_told IsWrittenEffect c.args.effects.now c.loop-effect.effect-index c.loop-effect-test.false c.loop-effect.invariant
