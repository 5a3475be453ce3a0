use Rattle.std.proofs.Common.{arith}
use Rattle.wse_apply.proofs.LimitLemmas.{above_here, above_later}
use Rattle.wse_apply.proofs.limits.first_above.Goals as goal

pub returns-then-number-limit : goal.returns-then-number-limit
returns-then-number-limit c =
    above_here c.args.limit c.args.tree.now.files c.loop-index.index c.bytes_at.result.now (omega arith) c.bytes_at.ensures (omega arith) c.loop-index.invariant

pub loop-index-preserved : goal.loop-index-preserved
loop-index-preserved c =
    above_later c.args.limit c.args.tree.now.files c.loop-index.index c.bytes_at.result.now (omega arith) c.bytes_at.ensures (omega arith) c.loop-index.invariant
