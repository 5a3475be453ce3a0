use Rattle.std.proofs.Common.{◌≡◌, take}
use Rattle.wse_disk.proofs.draft.tree_of.Given as goal

abbrev pub invariant-loop-entry : goal.invariant-loop-entry
invariant-loop-entry l = l.tree.files ≡ take l.entry-index l.files.entries
