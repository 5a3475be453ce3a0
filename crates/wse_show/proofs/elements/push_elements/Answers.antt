use Rattle.std.proofs.Common.{List, ℕ, ◌++◌, ap, ◌∙◌}
use Rattle.wse_show.specs.Elements.{element_line}
use Rattle.wse_show.proofs.ShowLemmas.{text_next}
use Rattle.wse_show.proofs.elements.push_elements.Goals as goal

pub loop-index-preserved : goal.loop-index-preserved
loop-index-preserved c =
    c.in_ok-push_element.ensures
    ∙ ap (λ (l : List ℕ). l ++ element_line c.element_at.result.now) c.loop-index.invariant
    ∙ text_next element_line c.args.stacks.now.state.records c.loop-index.index c.element_at.result.now c.args.text.now.items c.element_at.ensures
