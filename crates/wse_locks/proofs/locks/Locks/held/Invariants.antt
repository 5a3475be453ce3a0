use Rattle.std.proofs.Common.{◌≡◌, ◌&&◌, None, take, cond}
use Rattle.wse_path.specs.Path.{Path}
use Rattle.wse_path.specs.Order.{is_named}
use Rattle.wse_locks.specs.Locks.{holder, is_held}
use Rattle.wse_locks.proofs.locks.Locks.held.Given as goal

abbrev pub invariant-loop-file : goal.invariant-loop-file
invariant-loop-file l = (q : Path) → holder l.others.entries q ≡ cond (is_named (take l.file-index l.files) q && is_held l.self.entries l.by q) (holder l.self.entries q) None
