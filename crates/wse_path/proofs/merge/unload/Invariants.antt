use Rattle.std.proofs.Common.{◌≡◌, ◌≤◌, ◌++◌, length, reverse}
use Rattle.std.specs.Vec.{vec_capacity}
use Rattle.wse_path.proofs.merge.unload.Given as goal

abbrev pub invariant-loop-row : goal.invariant-loop-row
invariant-loop-row g l = record {
  same : l.row.items ++ reverse l.rest.items ≡ l.initial.row.items;
  front : l.at ≤ length l.row.items;
  row_capacity : l.row.capacity ≡ l.initial.row.capacity;
  rest_capacity : vec_capacity l.rest ≡ vec_capacity l.initial.rest;
}

abbrev pub decreases-loop-row : goal.decreases-loop-row
decreases-loop-row g l = length l.row.items
