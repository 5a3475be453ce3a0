use Rattle.std.proofs.Common.{◌≡◌, List, sym, ap, ◌∙◌}
use Rattle.wse_path.specs.PathMap.{capped}
use Rattle.wse_element.specs.Record.{Record}
use Rattle.wse_element.specs.State.{StacksState}
use Rattle.wse_element.specs.Weight.{weight}
use Rattle.wse_stacks.specs.Weigh.{images_each}
use Rattle.wse_stacks.proofs.WeighLemmas.{all_kept, whole_weight}
use Rattle.wse_stacks.proofs.weigh.weight_after.Goals.{then-takes_any+in_ok-left, else-takes_any}
use Rattle.wse_stacks.proofs.weigh.weight_after.Goals as goal

pub returns : goal.returns
returns c = λ next_id serial.
    let effects = c.args.effects.now in
    let records = c.args.records.now in
    let h : StacksState = record { records = records; next_id = next_id; serial = serial } in
    let left : c.if-takes_any.left ≡ capped (weight (images_each effects records)) =
    elim c.if-takes_any.branch [
      | then-takes_any+in_ok-left w ↦ w.left-is ∙ w.in_ok-left.ensures ∙ ap (λ (rs : List Record). capped (weight (images_each effects rs))) w.as_slice.ensures.value
      | else-takes_any w ↦ w.left-is ∙ w.weight-left.ensures ∙ ap capped (sym (all_kept effects records (sym c.takes_any.ensures ∙ w.if-takes_any.false)))
    ] in
    whole_weight h effects c.if-takes_any.left c.in_ok-brought_weight.field-0 c.saturating_add.result left c.in_ok-brought_weight.ensures c.saturating_add.ensures
