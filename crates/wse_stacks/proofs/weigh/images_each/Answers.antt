use Rattle.std.proofs.Common.{sym, ap, ◌∙◌}
use Rattle.wse_stacks.specs.Image.{images}
use Rattle.wse_stacks.proofs.WeighLemmas.{images_more}
use Rattle.wse_stacks.proofs.weigh.images_each.Goals as goal

pub loop-effect-preserved : goal.loop-effect-preserved
loop-effect-preserved c =
    let e = c.effect-item.result in
    c.in_ok-left.ensures
    ∙ ap (images e) (c.as_slice.ensures.value ∙ c.loop-effect.invariant)
    ∙ sym (images_more c.args.effects.now c.loop-effect.effect-index e c.args.records c.loop-effect-test.true c.effect-item.is)
