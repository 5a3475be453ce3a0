use Rattle.std.proofs.Common.{◌≡◌, map, take, filter, not}
use Rattle.wse_element.specs.Live.{is_live}
use Rattle.wse_slow_history.proofs.ruling.removed.Given as goal

abbrev pub invariant-loop-part : goal.invariant-loop-part
invariant-loop-part l = l.files.items ≡ map (λ part. part.path) (filter (λ part. not (is_live part.state)) (take l.part-index l.part-items))
