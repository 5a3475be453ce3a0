use Rattle.std.proofs.Common.{◌≡◌, filter}
use Rattle.std.specs.List.{range_with_len}
use Rattle.wse_text.specs.Place.{begins_line}
use Rattle.wse_text.proofs.index.starts_of.Given as goal

abbrev pub invariant-loop-place : goal.invariant-loop-place
invariant-loop-place l = l.starts.items ≡ filter (begins_line l.text) (range_with_len 0 l.place)
