use Rattle.std.proofs.Common.{◌≡◌, take}
use Rattle.wse_element.specs.Stacks.{live_at}
use Rattle.wse_plain.proofs.stacks.live_at.Given as goal

abbrev pub invariant-loop-element : goal.invariant-loop-element
invariant-loop-element l = l.all.items ≡ live_at (take l.element-index l.records) l.path
