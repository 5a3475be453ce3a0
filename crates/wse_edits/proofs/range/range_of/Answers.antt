use Rattle.wse_edits.proofs.RangeLemmas.{IsRangeOf-between}
use Rattle.wse_edits.proofs.range.range_of.Goals as goal

pub returns-clause-within : goal.returns-clause-within
returns-clause-within c =
    rw (c.min.ensures, c.max.ensures) (IsRangeOf-between c.args.text.now c.in_ok-start.start c.in_ok-end.end c.in_ok-start.ensures.ok c.in_ok-end.ensures.ok)
