use Rattle.std.proofs.Common.{◌≡◌, ◌++◌, map, take}
use Rattle.wse_stacks.proofs.touched.push_paths.Given as goal

abbrev pub invariant-loop-part : goal.invariant-loop-part
invariant-loop-part l = l.paths.items ≡ l.initial.paths.items ++ map (λ part. part.path) (take l.part-index l.parts)
