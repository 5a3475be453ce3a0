use Rattle.std.proofs.Common.{◌≡◌, take, map}
use Rattle.wse_element.specs.declared.state.PartState.TheVariants.{Closed}
use Rattle.wse_element.specs.Losses.{lost_at}
use Rattle.wse_plain.proofs.losses.closed_each.Given as goal

abbrev pub invariant-loop-element : goal.invariant-loop-element
invariant-loop-element l = l.all.items ≡ map (lost_at l.path Closed) (take l.element-index l.records)
