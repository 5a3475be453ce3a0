use Rattle.std.proofs.Common.{◌≤◌, All}
use Rattle.std.specs.Str.Iter.{chars_rest}
use Rattle.wse_text.specs.Index.{IsMark}
use Rattle.wse_text.proofs.MarkLemmas.{IsPassed}
use Rattle.wse_text.proofs.index.mark_line.Given as goal

abbrev pub invariant-loop-point : goal.invariant-loop-point
invariant-loop-point l = record {
  passed : IsPassed l.text l.enc l.start l.place l.units (chars_rest l.point-iterator);
  last : l.last ≤ l.place;
  marks : All (IsMark l.text l.enc) l.marks.items;
}
