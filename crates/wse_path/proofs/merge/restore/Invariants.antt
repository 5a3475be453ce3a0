use Rattle.std.proofs.Common.{◌≡◌, ◌++◌, reverse, vec_len}
use Rattle.std.specs.Vec.{vec_capacity}
use Rattle.wse_path.proofs.merge.restore.Given as goal

abbrev pub invariant-loop-path : goal.invariant-loop-path
invariant-loop-path g l = record {
  same : l.row.items ++ reverse l.rest.items ≡ l.initial.row.items ++ reverse l.initial.rest.items;
  row_capacity : l.row.capacity ≡ l.initial.row.capacity;
  rest_capacity : vec_capacity l.rest ≡ vec_capacity l.initial.rest;
}

abbrev pub decreases-loop-path : goal.decreases-loop-path
decreases-loop-path g l = vec_len l.rest
