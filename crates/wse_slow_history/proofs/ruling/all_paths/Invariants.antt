use Rattle.std.proofs.Common.{◌≡◌, map, take}
use Rattle.wse_slow_history.proofs.ruling.all_paths.Given as goal

abbrev pub invariant-loop-part : goal.invariant-loop-part
invariant-loop-part l = l.files.items ≡ map (λ part. part.path) (take l.part-index l.part-items)
