use Rattle.std.proofs.Common.{◌≡◌, ◌++◌, true}
use Rattle.std.specs.FinMap.{is_sorted}
use Rattle.std.specs.FinMap.Entries.{below_all}
use Rattle.wse_path.specs.Order.{path_cmp}
use Rattle.wse_path.specs.Tree.{paths_under}
use Rattle.wse_overlay.proofs.lookups.put_paths.Given as goal

abbrev pub invariant-loop-file : goal.invariant-loop-file
invariant-loop-file l = record {
  rest : paths_under l.put.entries l.path ≡ l.paths.items ++ paths_under l.file-iterator l.path;
  rises : is_sorted path_cmp l.file-iterator ≡ true;
  behind : below_all path_cmp l.path l.file-iterator ≡ true;
}
