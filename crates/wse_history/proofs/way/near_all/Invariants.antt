use Rattle.std.proofs.Common.{◌≡◌, ◌&&◌, take}
use Rattle.std.specs.BTreeSet.{contains}
use Rattle.wse_path.specs.Path.{Path}
use Rattle.wse_path.specs.Order.{path_cmp}
use Rattle.wse_path.specs.Tree.{is_present}
use Rattle.wse_history.specs.Marks.{is_near_marked}
use Rattle.wse_history.proofs.way.near_all.Given as goal

abbrev pub invariant-loop-mark : goal.invariant-loop-mark
invariant-loop-mark l = (q : Path) → contains path_cmp l.found q ≡ (is_present l.tree.files q && is_near_marked (take l.mark-index l.marks) q)
