use Rattle.std.proofs.Common.{List, map, ap, ◌∙◌}
use Rattle.std.specs.FinMap.{is_sorted}
use Rattle.wse_path.specs.Order.{path_cmp}
use Rattle.wse_element.specs.Content.{old_content}
use Rattle.wse_element.specs.Record.{RecordPart, by_path}
use Rattle.wse_element.proofs.CloseLemmas.{sorted_contents}
use Rattle.wse_recover.proofs.SetsLemmas.{all_taken}
use Rattle.wse_recover.proofs.sets.old_contents.Goals as goal

pub returns-clause-rise : goal.returns-clause-rise
returns-clause-rise c =
    let parts = c.parts-part-items.result.now in
    let content = λ (part : RecordPart). old_content part.body in
    ap (is_sorted path_cmp) (c.new.ensures ∙ c.loop-part.invariant ∙ ap (map (λ (part : RecordPart). (part.path, content part))) (all_taken parts c.loop-part.part-index c.loop-part-test.false))
    ∙ sorted_contents content parts ∙ ap (λ (ps : List RecordPart). is_sorted path_cmp (by_path ps)) c.parts-part-items.ensures.parts ∙ c.parts-part-items.ensures.rule.rise
