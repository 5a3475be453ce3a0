use Rattle.std.proofs.Common.{◌≡◌, ◌≤◌, ◌++◌, Some, length, cond}
use Rattle.wse_path.specs.Path.{Path}
use Rattle.wse_path.specs.Order.{is_named}
use Rattle.wse_locks.specs.Locks.{holder}
use Rattle.wse_locks.proofs.locks.give_all.Given as goal

abbrev pub invariant-loop-path : goal.invariant-loop-path
invariant-loop-path l = record {
  all : l.fn.paths.items ≡ l.yielded ++ l.path-iterator.rest.items;
  given : (q : Path) → holder l.map.entries q ≡ cond (is_named l.yielded q) (Some l.by) (holder l.initial.map.entries q);
  room : length l.path-iterator.rest.items ≤ l.map.spare;
}
