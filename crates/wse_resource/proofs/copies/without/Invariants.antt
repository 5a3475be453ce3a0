use Rattle.std.proofs.Common.{◌≡◌, take}
use Rattle.wse_resource.specs.After.{without}
use Rattle.wse_resource.proofs.copies.without.Given as goal

abbrev pub invariant-loop-index : goal.invariant-loop-index
invariant-loop-index l = l.left.files ≡ without (take l.index l.tree.files) l.path
