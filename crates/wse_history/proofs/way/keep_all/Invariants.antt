use Rattle.std.proofs.Common.{◌≡◌, ◌++◌, ◌||◌}
use Rattle.std.specs.List.{list_any}
use Rattle.std.specs.BTreeSet.{contains}
use Rattle.std.specs.Ordering.{eq_by_cmp}
use Rattle.wse_path.specs.Path.{Path}
use Rattle.wse_path.specs.Order.{path_cmp}
use Rattle.wse_history.proofs.way.keep_all.Given as goal

abbrev pub invariant-loop-path : goal.invariant-loop-path
invariant-loop-path l = record {
  all : l.fn.paths.items ≡ l.yielded ++ l.path-iterator.rest.items;
  kept : (q : Path) → contains path_cmp l.found q ≡ (list_any (λ x. eq_by_cmp path_cmp q x) l.yielded || contains path_cmp l.initial.found q);
}
