use Rattle.std.proofs.Common.{◌≡◌, map, take, filter, not, ◌&&◌}
use Rattle.wse_element.specs.Live.{is_live}
use Rattle.wse_slow_history.proofs.ruling.invalid.Given as goal

abbrev pub invariant-loop-part : goal.invariant-loop-part
invariant-loop-part l = l.files.items ≡ map (λ part. part.path) (filter (λ part. is_live part.state && not part.valid) (take l.part-index l.part-items))
