use Rattle.std.proofs.Common.{◌≡◌, false, sym, ap, ◌∙◌}
use Rattle.std.specs.List.{list_any}
use Rattle.wse_path.specs.PathMap.{capped}
use Rattle.wse_element.specs.Record.{Record}
use Rattle.wse_stacks.specs.Weigh.{loses}
use Rattle.wse_stacks.proofs.WeighLemmas.{kept_weight}
use Rattle.wse_stacks.proofs.weigh.left_weight.Goals as goal

pub returns-then-not-loses_by : goal.returns-then-not-loses_by
returns-then-not-loses_by c =
    let effects = c.args.effects.now in
    let r = c.args.entry.now in
    let none : list_any (loses r) effects ≡ false = ap (λ (x : Record). list_any (loses x) effects) (sym c.element.ensures.value) ∙ sym c.loses_by.ensures ∙ c.if-not-loses_by.true in
    c.weight.ensures ∙ ap capped (sym (kept_weight effects r none))
