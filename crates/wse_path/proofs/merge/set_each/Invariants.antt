use Rattle.std.proofs.Common.{◌≡◌, ◌+◌, ◌≤◌, ◌++◌, ◌∷◌, List, true, length, reverse}
use Rattle.std.specs.Vec.{vec_capacity}
use Rattle.wse_path.specs.Order.{path_cmp}
use Rattle.wse_path.specs.Path.{Path}
use Rattle.wse_path.specs.PathMap.{update_all}
use Rattle.wse_path.specs.Place.{all_before}
use Rattle.wse_path.proofs.merge.set_each.Given as goal

abbrev pub invariant-loop-path : goal.invariant-loop-path
invariant-loop-path g l = record {
  all : l.fn.items.items ≡ l.yielded ++ l.path-iterator.rest.items;
  set : l.row.items ++ reverse l.rest.items ≡ update_all g.C.Update.updated l.yielded (l.initial.row.items ++ reverse l.initial.rest.items);
  before : (c : Path × g.row.C.Denot) (more : List (Path × g.row.C.Denot)) → l.path-iterator.rest.items ≡ c ∷ more → all_before path_cmp l.row.items c.0 ≡ true;
  room : length l.row.items + length l.rest.items + length l.path-iterator.rest.items ≤ length l.initial.row.items + length l.initial.rest.items + length l.fn.items.items;
  row_capacity : l.row.capacity ≡ l.initial.row.capacity;
  rest_capacity : vec_capacity l.rest ≡ vec_capacity l.initial.rest;
}
