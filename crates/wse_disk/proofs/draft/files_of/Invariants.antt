use Rattle.std.proofs.Common.{◌≡◌, take}
use Rattle.wse_disk.proofs.draft.files_of.Given as goal

abbrev pub invariant-loop-index : goal.invariant-loop-index
invariant-loop-index l = l.files.entries ≡ take l.index l.tree.files
