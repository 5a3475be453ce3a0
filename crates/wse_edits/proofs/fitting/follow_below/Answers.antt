use Rattle.std.proofs.Common.{◌+◌, subst, sym, ◌∙◌}
use Rattle.wse_edits.proofs.FittingLemmas.{IsScanned, IsScanned-more, IsScanned-skip}
use Rattle.wse_edits.proofs.fitting.follow_below.Goals as goal
use Rattle.wse_edits.proofs.fitting.follow_below.Goals.{then-range-count+else-range-reach, else-range-count}

pub loop-range-preserved : goal.loop-range-preserved
loop-range-preserved c =
    let index = c.loop-range.range-index in
    elim c.if-range-count.branch [
      | then-range-count+else-range-reach w ↦
          subst (IsScanned c.args.count c.args.sorted.now (index + 1)) (sym (w.reach-is ∙ w.max-reach.ensures)) (IsScanned-more c.loop-range.invariant _ c.loop-range-test.true w.if-range-count.true w.if-range-reach.false)
      | else-range-count w ↦
          subst (IsScanned c.args.count c.args.sorted.now (index + 1)) (sym w.reach-is) (IsScanned-skip c.loop-range.invariant _ c.loop-range-test.true w.if-range-count.false)
    ]
