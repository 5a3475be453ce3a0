use Rattle.std.proofs.Common.{sym, ◌∙◌, arith}
use Rattle.wse_element.proofs.RiseLemmas.{rise_kept, rise_end}
use Rattle.wse_element.proofs.rise.rise.Goals as goal

pub loop-at-preserved : goal.loop-at-preserved
loop-at-preserved c =
    rise_kept c.args.parts.now c.loop-at.at c.index-parts-at.result c.index-parts-at-in-loop-at.result c.is_before.result (omega arith) (omega arith) c.index-parts-at.is c.index-parts-at-in-loop-at.is c.is_before.ensures (grind arith) c.loop-at.invariant

pub returns : goal.returns
returns c = sym (rise_end c.args.parts.now c.loop-at.at (omega arith)) ∙ c.loop-at.invariant
