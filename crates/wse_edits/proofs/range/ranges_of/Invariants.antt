use Rattle.std.proofs.Common.{◌≡◌, All, IfSome, map, take}
use Rattle.wse_edits.specs.Range.{IsRangeOf, live_range}
use Rattle.wse_edits.proofs.InsideLemmas.{IsClearBefore}
use Rattle.wse_edits.proofs.range.ranges_of.Given as goal

abbrev pub invariant-loop-number : goal.invariant-loop-number
invariant-loop-number l = record {
  value : l.ranges.items ≡ map (live_range l.text l.enc) (take l.number l.edits);
  within : All (λ range. IfSome range (IsRangeOf l.text)) l.ranges.items;
  clear : IsClearBefore l.text l.enc l.edits l.number;
}
