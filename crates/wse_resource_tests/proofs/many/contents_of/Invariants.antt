use Rattle.std.proofs.Common.{◌≡◌, take}
use Rattle.wse_path.specs.Changes.{contents_of}
use Rattle.wse_resource_tests.proofs.many.contents_of.Given as goal

abbrev pub invariant-loop-change : goal.invariant-loop-change
invariant-loop-change l = l.contents.items ≡ contents_of (take l.change-index l.changes)
