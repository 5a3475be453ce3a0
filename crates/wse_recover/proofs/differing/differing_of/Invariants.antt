use Rattle.std.proofs.Common.{◌≡◌, ◌++◌}
use Rattle.std.specs.Prelude.{filter}
use Rattle.wse_recover.specs.Differing.{differs}
use Rattle.wse_recover.proofs.differing.differing_of.Given as goal

abbrev pub invariant-loop-path : goal.invariant-loop-path
invariant-loop-path l =
    l.found.items ++ filter (differs l.tree.files l.stacks.state.records) l.path-iterator.rest.items
    ≡ filter (differs l.tree.files l.stacks.state.records) l.fn.paths.items
