use Rattle.std.proofs.Common.{◌≡◌, take, map}
use Rattle.wse_element.specs.Losses.{future_lost_at}
use Rattle.wse_plain.proofs.losses.future_lost_each.Given as goal

abbrev pub invariant-loop-element : goal.invariant-loop-element
invariant-loop-element l = l.all.items ≡ map (future_lost_at l.path) (take l.element-index l.records)
