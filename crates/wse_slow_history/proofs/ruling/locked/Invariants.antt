use Rattle.std.proofs.Common.{◌≡◌, map, take, filter, ◌&&◌}
use Rattle.wse_locks.specs.Locks.{is_held}
use Rattle.wse_element.specs.Live.{is_live}
use Rattle.wse_slow_history.proofs.ruling.locked.Given as goal

abbrev pub invariant-loop-part : goal.invariant-loop-part
invariant-loop-part l = l.files.items ≡ map (λ part. part.path) (filter (λ part. is_live part.state && is_held l.locks.entries l.by part.path) (take l.part-index l.part-items))
