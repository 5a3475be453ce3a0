use Rattle.std.proofs.Common.{◌≡◌, ◌++◌, flat_map}
use Rattle.wse_path.specs.Changes.{change_to}
use Rattle.wse_overlay.proofs.difference.changes_to.Given as goal

abbrev pub invariant-loop-path : goal.invariant-loop-path
invariant-loop-path g l = l.changes.items ++ flat_map (change_to (g.C.Contents.files l.below)) l.path-iterator ≡ flat_map (change_to (g.C.Contents.files l.below)) l.fn.contents.entries
