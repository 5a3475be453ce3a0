use Rattle.std.proofs.Common.{◌≡◌, take}
use Rattle.wse_slow_history.proofs.held.tree_of.Given as goal

abbrev pub invariant-loop-file : goal.invariant-loop-file
invariant-loop-file l = l.tree.files ≡ take l.file-index l.files
