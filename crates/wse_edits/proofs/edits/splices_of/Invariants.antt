use Rattle.std.proofs.Common.{◌≡◌, take}
use Rattle.std.specs.List.{filter_map, zip}
use Rattle.wse_edits.specs.Edited.{splice_in}
use Rattle.wse_edits.proofs.edits.splices_of.Given as goal

abbrev pub invariant-loop-number : goal.invariant-loop-number
invariant-loop-number l = l.splices.items ≡ filter_map (λ e. splice_in e.0 e.1) (zip (take l.number l.edits) (take l.number l.ranges))
