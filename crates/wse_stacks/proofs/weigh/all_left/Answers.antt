use Rattle.std.proofs.Common.{List, sym, ap, ◌∙◌}
use Rattle.wse_path.specs.PathMap.{capped}
use Rattle.wse_element.specs.Record.{Record}
use Rattle.wse_element.specs.Weight.{weight}
use Rattle.wse_stacks.proofs.WeighLemmas.{images_none, left_more}
use Rattle.wse_stacks.proofs.weigh.all_left.Goals as goal

pub loop-entry-init : goal.loop-entry-init
loop-entry-init c = sym (ap (λ (rs : List Record). capped (weight rs)) (images_none c.args.effects.now))

pub loop-entry-preserved : goal.loop-entry-preserved
loop-entry-preserved c =
    c.saturating_add-sum.ensures
    ∙ left_more c.args.effects.now c.args.entries.now c.loop-entry.entry-index c.entry-item.result c.loop-entry.sum c.in_ok-left_weight.field-0
    c.loop-entry-test.true c.entry-item.is c.loop-entry.invariant c.in_ok-left_weight.ensures
