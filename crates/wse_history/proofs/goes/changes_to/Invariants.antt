use Rattle.std.proofs.Common.{◌≡◌, take}
use Rattle.std.specs.List.{flat_map}
use Rattle.wse_path.specs.Changes.{change_to}
use Rattle.wse_history.specs.Moving.{contents_to}
use Rattle.wse_history.proofs.goes.changes_to.Given as goal

abbrev pub invariant-loop-part : goal.invariant-loop-part
invariant-loop-part l = l.changes.items ≡ flat_map (change_to l.tree.files) (contents_to l.direction (take l.part-index l.parts))
