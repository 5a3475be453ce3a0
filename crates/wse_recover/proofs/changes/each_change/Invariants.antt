use Rattle.std.proofs.Common.{◌≡◌, ◌++◌, flat_map}
use Rattle.wse_path.specs.Changes.{change_to}
use Rattle.wse_recover.proofs.changes.each_change.Given as goal

abbrev pub invariant-loop-path : goal.invariant-loop-path
invariant-loop-path l = l.changes.items ++ flat_map (change_to l.tree.files) l.path-iterator.rest.items ≡ flat_map (change_to l.tree.files) l.fn.sets.items
