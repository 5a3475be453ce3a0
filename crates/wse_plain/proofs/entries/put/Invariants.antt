use Rattle.std.proofs.Common.{◌≡◌, ◌++◌, take, drop}
use Rattle.std.specs.FinMap.{put}
use Rattle.wse_path.specs.Order.{path_cmp}
use Rattle.wse_plain.proofs.entries.put.Given as goal

abbrev pub invariant-loop-at : goal.invariant-loop-at
invariant-loop-at g l = record {
  same : l.all.items ≡ l.fn.entries.items;
  path : l.path ≡ l.fn.path;
  walked : put path_cmp l.path l.value l.all.items ≡ take l.at l.all.items ++ put path_cmp l.path l.value (drop l.at l.all.items);
}
