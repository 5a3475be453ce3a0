use Rattle.std.proofs.lemmas.Result.{err_from_is_err_and}
use Rattle.wse_codec.specs.Reading.{element_at}
use Rattle.wse_codec.proofs.LoopLemmas.{goes_on, ends, is_done}
use Rattle.wse_codec.proofs.elements.take_element_row.Goals as goal

pub returns-in_err-element : goal.returns-in_err-element
returns-in_err-element c =
    let p = err_from_is_err_and c.from_residual.result c.from_residual.ensures.1 in
    rw (p.1, p.2) (ends (λ last. element_at) c.in_err-element.field-0.0 c.loop.elements.items c.args.count c.loop.counter c.loop.rest.now c.args.bytes.now c.loop-test.true c.in_err-element.ensures c.loop.invariant)

pub loop-preserved : goal.loop-preserved
loop-preserved c =
    rw c.in_ok-push.ensures.items (goes_on (λ last. element_at) c.loop.elements.items c.args.count c.loop.counter c.loop.rest.now c.in_ok-element.element c.in_ok-element.after.now c.args.bytes.now c.loop-test.true c.in_ok-element.ensures c.loop.invariant)

pub returns : goal.returns
returns c = is_done (λ last. element_at) c.loop.elements.items c.args.count c.loop.counter c.loop.rest.now c.args.bytes.now c.loop-test.false c.loop.invariant
