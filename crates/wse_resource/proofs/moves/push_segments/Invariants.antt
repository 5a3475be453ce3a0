use Rattle.std.proofs.Common.{◌≡◌, ◌++◌, drop}
use Rattle.wse_path.specs.Path.{bytes_of}
use Rattle.wse_resource.proofs.moves.push_segments.Given as goal

abbrev pub invariant-loop-index : goal.invariant-loop-index
invariant-loop-index l = bytes_of l.segments.items ++ drop l.index l.path ≡ bytes_of l.initial.segments.items ++ drop l.start l.path
