use Rattle.std.proofs.Common.{◌≡◌, take}
use Rattle.wse_locks.proofs.locks.copies.Given as goal

abbrev pub invariant-loop-file : goal.invariant-loop-file
invariant-loop-file l = l.paths.items ≡ take l.file-index l.files
