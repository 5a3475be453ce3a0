use Rattle.std.proofs.Common.{◌≡◌, ◌&&◌, not, take}
use Rattle.std.specs.BTreeSet.{contains}
use Rattle.wse_path.specs.Path.{Path}
use Rattle.wse_path.specs.Order.{path_cmp}
use Rattle.wse_history.specs.Marks.{is_marked}
use Rattle.wse_history.proofs.way.leave_out.Given as goal

abbrev pub invariant-loop-mark : goal.invariant-loop-mark
invariant-loop-mark l = (q : Path) → contains path_cmp l.found q ≡ (not (is_marked (take l.mark-index l.marks) q) && contains path_cmp l.initial.found q)
