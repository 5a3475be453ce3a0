use Rattle.std.proofs.Common.{ap, ◌∙◌, set}
use Rattle.wse_element.specs.Losses.{part_invalid_at}
use Rattle.wse_element.proofs.StepLemmas.{changed_more}
use Rattle.wse_element.proofs.element.invalidate_each.Goals as goal

pub loop-part-preserved : goal.loop-part-preserved
loop-part-preserved c =
    ap (λ part. set c.loop-part.parts c.loop-part.part-index part) (cc)
    ∙ changed_more (part_invalid_at c.args.path.now) c.args.parts.now c.loop-part.parts c.loop-part.part-index c.part-item.result c.loop-part-test.true c.loop-part.invariant c.part-item.is
