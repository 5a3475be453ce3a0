use Rattle.std.proofs.Common.{◌∙◌}
use Rattle.wse_apply.specs.Sizes.{plus}
use Rattle.wse_apply.proofs.SizeLemmas.{before_more}
use Rattle.wse_apply.proofs.sizes.size_before.Goals as goal

pub loop-change-preserved : goal.loop-change-preserved
loop-change-preserved c =
    c.plus-all.ensures ∙ (λ i. plus (c.loop-change.invariant i) (c.content_size.ensures i))
    ∙ before_more c.args.changes.now c.loop-change.change-index c.change-item.result c.loop-change-test.true c.change-item.is
