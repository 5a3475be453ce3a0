use Rattle.std.proofs.Common.{◌≡◌, ◌+◌, ◌≤◌, drop}
use Rattle.wse_history.specs.Placed.{place}
use Rattle.wse_history.proofs.splits.place.Given as goal

abbrev pub invariant-loop-part : goal.invariant-loop-part
invariant-loop-part l = (l.place + place l.path (drop l.part-index l.parts) ≡ place l.path l.parts) × (l.place ≤ l.part-index)
