use Rattle.std.proofs.Common.{List, sym, ap, ◌∙◌}
use Rattle.wse_path.specs.PathMap.{capped}
use Rattle.wse_element.specs.declared.effect.Effect.{Effect}
use Rattle.wse_element.specs.Record.{Record}
use Rattle.wse_element.specs.Weight.{weight}
use Rattle.wse_stacks.specs.Weigh.{images_each, pushed_by}
use Rattle.wse_stacks.proofs.WeighLemmas.{images_none, kept_weight, none_pushed}
use Rattle.wse_stacks.proofs.weigh.pushed_weight.Goals as goal

pub returns-then-not-loses_by : goal.returns-then-not-loses_by
returns-then-not-loses_by c =
    let later = c.args.later.now in
    c.weight.ensures
    ∙ ap capped (sym (kept_weight later c.in-Push.element (sym c.loses_by.ensures ∙ c.if-not-loses_by.true)))
    ∙ ap (λ (e : Effect). capped (weight (images_each later (pushed_by e)))) (sym c.in-Push.is)

pub returns-in_default : goal.returns-in_default
returns-in_default c =
    let later = c.args.later.now in
    sym (ap (λ (rs : List Record). capped (weight (images_each later rs))) (none_pushed c.args.effect.now c.in_default.not-Push)
    ∙ ap (λ (rs : List Record). capped (weight rs)) (images_none later))
