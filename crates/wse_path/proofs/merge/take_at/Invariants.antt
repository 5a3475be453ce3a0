use Rattle.std.proofs.Common.{◌≡◌, ◌++◌, true, reverse, vec_len}
use Rattle.std.specs.Vec.{vec_capacity}
use Rattle.wse_path.specs.Order.{path_cmp}
use Rattle.wse_path.specs.Place.{all_before}
use Rattle.wse_path.proofs.merge.take_at.Given as goal

abbrev pub invariant-loop-there : goal.invariant-loop-there
invariant-loop-there g l = record {
  same : l.row.items ++ reverse l.rest.items ≡ l.initial.row.items ++ reverse l.initial.rest.items;
  before : all_before path_cmp l.row.items l.path ≡ true;
  row_capacity : l.row.capacity ≡ l.initial.row.capacity;
  rest_capacity : vec_capacity l.rest ≡ vec_capacity l.initial.rest;
}

abbrev pub decreases-loop-there : goal.decreases-loop-there
decreases-loop-there g l = vec_len l.rest
