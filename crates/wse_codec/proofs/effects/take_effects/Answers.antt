use Rattle.std.proofs.lemmas.Result.{err_from_is_err_and}
use Rattle.wse_codec.specs.Reading.{effect_at}
use Rattle.wse_codec.proofs.LoopLemmas.{goes_on, ends, is_done}
use Rattle.wse_codec.proofs.effects.take_effects.Goals as goal

pub returns-in_err-effect : goal.returns-in_err-effect
returns-in_err-effect c =
    let p = err_from_is_err_and c.from_residual.result c.from_residual.ensures.1 in
    rw (p.1, p.2) (ends (λ last. effect_at) c.in_err-effect.field-0.0 c.loop.effects.items c.args.count c.loop.counter c.loop.rest.now c.args.bytes.now c.loop-test.true c.in_err-effect.ensures c.loop.invariant)

pub loop-preserved : goal.loop-preserved
loop-preserved c =
    rw c.in_ok-push.ensures.items (goes_on (λ last. effect_at) c.loop.effects.items c.args.count c.loop.counter c.loop.rest.now c.in_ok-effect.effect c.in_ok-effect.after.now c.args.bytes.now c.loop-test.true c.in_ok-effect.ensures c.loop.invariant)

pub returns : goal.returns
returns c = is_done (λ last. effect_at) c.loop.effects.items c.args.count c.loop.counter c.loop.rest.now c.args.bytes.now c.loop-test.false c.loop.invariant
