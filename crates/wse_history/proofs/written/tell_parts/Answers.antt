use Rattle.wse_history.specs.Written.{IsWrittenPart}
use Rattle.wse_history.proofs.LoopLemmas.{told_more, all_told}
use Rattle.wse_history.proofs.written.tell_parts.Goals as goal

pub loop-part-preserved : goal.loop-part-preserved
loop-part-preserved c = told_more IsWrittenPart c.args.parts.now c.loop-part.part-index c.part-item.result c.loop-part-test.true c.part-item.is c.tell_part.ensures c.loop-part.invariant

pub returns : goal.returns
returns c = all_told IsWrittenPart c.args.parts.now c.loop-part.part-index c.loop-part-test.false c.loop-part.invariant
