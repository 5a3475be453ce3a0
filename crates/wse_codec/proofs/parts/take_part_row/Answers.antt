use Rattle.std.proofs.Common.{ap, sym, subst, ◌∙◌, List, Option}
use Rattle.std.proofs.lemmas.Result.{err_from_is_err_and}
use Rattle.wse_element.specs.Record.{RecordPart}
use Rattle.wse_codec.specs.Reading.{part_behind}
use Rattle.wse_codec.specs.Gives.{Fails}
use Rattle.wse_codec.proofs.LoopLemmas.{last_of, goes_on, ends, is_done}
use Rattle.wse_codec.proofs.parts.take_part_row.Goals as goal

pub returns-in_err-part : goal.returns-in_err-part
returns-in_err-part c =
    let p = err_from_is_err_and c.from_residual.result c.from_residual.ensures.1 in
    rw (p.1, p.2) (ends part_behind c.in_err-part.field-0.0 c.loop.parts.items c.args.count c.loop.counter c.loop.rest.now c.args.bytes.now c.loop-test.true (subst (λ (o : Option RecordPart). Fails c.in_err-part.field-0.0 (part_behind o c.loop.rest.now)) (c.last.ensures.value ∙ ap (λ (ps : List RecordPart). last_of ps) c.deref.ensures.value) c.in_err-part.ensures) c.loop.invariant)

pub loop-preserved : goal.loop-preserved
loop-preserved c =
    rw c.in_ok-push.ensures.items (goes_on part_behind c.loop.parts.items c.args.count c.loop.counter c.loop.rest.now c.in_ok-part.part c.in_ok-part.after.now c.args.bytes.now c.loop-test.true (ap (λ (o : Option RecordPart). part_behind o c.loop.rest.now) (sym (c.last.ensures.value ∙ ap (λ (ps : List RecordPart). last_of ps) c.deref.ensures.value)) ∙ c.in_ok-part.ensures) c.loop.invariant)

pub returns : goal.returns
returns c = is_done part_behind c.loop.parts.items c.args.count c.loop.counter c.loop.rest.now c.args.bytes.now c.loop-test.false c.loop.invariant
