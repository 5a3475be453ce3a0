use Rattle.std.proofs.Common.{◌≡◌, ◌||◌, take}
use Rattle.std.specs.List.{list_any}
use Rattle.std.specs.BTreeSet.{contains}
use Rattle.wse_path.specs.Path.{Path}
use Rattle.wse_path.specs.Order.{path_cmp}
use Rattle.wse_element.specs.Live.{is_live_part_at}
use Rattle.wse_stacks.proofs.paths.put_each.Given as goal

abbrev pub invariant-loop-part : goal.invariant-loop-part
invariant-loop-part l = (p : Path) → contains path_cmp l.found p ≡ (contains path_cmp l.initial.found p || list_any (is_live_part_at p) (take l.part-index l.parts))
