use Rattle.std.proofs.Common.{ap, ◌∙◌}
use Rattle.indexmap.specs.IndexMap.{get}
use Rattle.wse_element.specs.Live.{is_live_part_at}
use Rattle.wse_stacks.specs.Indexed.{path_eq, noted}
use Rattle.wse_stacks.proofs.IndexedLemmas.{noted_more}
use Rattle.wse_stacks.proofs.indexed.note_parts.Goals as goal

pub loop-part-preserved : goal.loop-part-preserved
loop-part-preserved c = λ p.
    let part = c.part-item.result in
    c.in_ok-note_part.ensures p
    ∙ ap (noted (is_live_part_at p part) c.args.at) (c.loop-part.invariant p)
    ∙ noted_more p c.args.parts.now c.loop-part.part-index part c.args.at (get path_eq c.args.last.now p) c.loop-part-test.true c.part-item.is
