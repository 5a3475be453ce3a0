use Rattle.std.proofs.Common.{◌≡◌, None, take, cond}
use Rattle.wse_path.specs.Path.{Path}
use Rattle.wse_path.specs.Order.{is_named}
use Rattle.wse_locks.specs.Locks.{holder}
use Rattle.wse_locks.proofs.locks.free_all.Given as goal

abbrev pub invariant-loop-file : goal.invariant-loop-file
invariant-loop-file l = (q : Path) → holder l.map.entries q ≡ cond (is_named (take l.file-index l.files) q) None (holder l.initial.map.entries q)
