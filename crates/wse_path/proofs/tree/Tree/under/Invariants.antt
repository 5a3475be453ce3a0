use Rattle.std.proofs.Common.{◌≡◌, ◌++◌, drop}
use Rattle.wse_path.specs.Tree.{paths_under}
use Rattle.wse_path.proofs.tree.Tree.under.Given as goal

abbrev pub invariant-loop-entry : goal.invariant-loop-entry
invariant-loop-entry l = paths_under l.entry-items l.path ≡ l.paths.items ++ paths_under (drop l.entry-index l.entry-items) l.path
