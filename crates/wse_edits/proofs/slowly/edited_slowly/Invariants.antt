use Rattle.std.proofs.Common.{◌≡◌}
use Rattle.wse_splice.proofs.PlaceLemmas.{over}
use Rattle.wse_edits.proofs.SpliceLemmas.{at_place}
use Rattle.wse_edits.proofs.slowly.edited_slowly.Given as goal

abbrev pub invariant-loop-place : goal.invariant-loop-place
invariant-loop-place l = l.after.items ≡ over (at_place l.text l.enc l.edits) 0 l.place
