use Rattle.std.proofs.Common.{All}
use Rattle.wse_text.specs.Index.{IsMark}
use Rattle.wse_text.proofs.index.LineIndex.of.Given as goal

abbrev pub invariant-loop-start : goal.invariant-loop-start
invariant-loop-start l = All (IsMark l.text l.enc) l.marks.items
