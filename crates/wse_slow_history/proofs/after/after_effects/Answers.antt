use Rattle.wse_slow_history.specs.Slow.{state_of}
use Rattle.wse_slow_history.proofs.AfterLemmas.{after_more, after_last}
use Rattle.wse_slow_history.proofs.after.after_effects.Goals as goal

pub loop-effect-preserved : goal.loop-effect-preserved
loop-effect-preserved c =
    after_more (state_of c.args.state) (state_of c.loop-effect.last) (state_of c.in_ok-last.last) c.args.effects.now c.loop-effect.effect-index c.effect-item.result c.loop-effect-test.true c.effect-item.is c.in_ok-last.ensures c.loop-effect.invariant

pub returns : goal.returns
returns c = after_last (state_of c.args.state) (state_of c.loop-effect.last) c.args.effects.now c.loop-effect.effect-index c.loop-effect-test.false c.loop-effect.invariant
