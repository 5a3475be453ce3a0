use Rattle.std.proofs.Common.{sym, ◌∙◌, arith}
use Rattle.wse_plain.proofs.FirstLemmas.{last_meets}
use Rattle.wse_plain.proofs.linked.neighbours_meet.Goals as goal

pub returns : goal.returns
returns c = sym (c.loop-at.invariant ∙ last_meets c.args.path.now c.args.records.now c.loop-at.at (omega arith))
