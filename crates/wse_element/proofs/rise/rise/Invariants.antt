use Rattle.std.proofs.Common.{◌≡◌, ◌-◌, drop}
use Rattle.std.specs.FinMap.{is_sorted}
use Rattle.wse_path.specs.Order.{path_cmp}
use Rattle.wse_element.specs.Record.{by_path}
use Rattle.wse_element.proofs.rise.rise.Given as goal

abbrev pub invariant-loop-at : goal.invariant-loop-at
invariant-loop-at l = is_sorted path_cmp (by_path (drop (l.at - 1) l.parts)) ≡ is_sorted path_cmp (by_path l.parts)
