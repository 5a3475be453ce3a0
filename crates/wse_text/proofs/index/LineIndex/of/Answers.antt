use Rattle.wse_text.proofs.CutLemmas.{AreLineStarts-from_same}
use Rattle.wse_text.proofs.LineLemmas.{starts_boundaries}
use Rattle.wse_text.proofs.index.LineIndex.of.Goals as goal
use Rattle.std.proofs.Common.{◌∙◌}

pub mark_line-requires-clause-boundary : goal.mark_line-requires-clause-boundary
mark_line-requires-clause-boundary c =
    starts_boundaries c.args.text.now c.deref-start-items.result.now c.utf8.text (c.deref-start-items.ensures.value ∙ c.in_ok-starts.ensures) c.loop-start.start-index 0 c.loop-start-test.true

pub returns-clause-lines : goal.returns-clause-lines
returns-clause-lines c = AreLineStarts-from_same c.args.text.now c.in_ok-starts.starts.items c.utf8.text c.in_ok-starts.ensures
