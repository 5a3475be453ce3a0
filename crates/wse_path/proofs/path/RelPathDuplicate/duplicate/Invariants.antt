use Rattle.std.proofs.Common.{◌≡◌, take}
use Rattle.wse_path.specs.Path.{bytes_of}
use Rattle.wse_path.proofs.path.RelPathDuplicate.duplicate.Given as goal

abbrev pub invariant-loop-segment : goal.invariant-loop-segment
invariant-loop-segment l = bytes_of l.segments.items ≡ bytes_of (take l.segment-index l.segment-items)
