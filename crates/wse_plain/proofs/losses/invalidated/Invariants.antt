use Rattle.std.proofs.Common.{◌≡◌, take}
use Rattle.wse_element.specs.Losses.{invalidated}
use Rattle.wse_plain.proofs.losses.invalidated.Given as goal

abbrev pub invariant-loop-element : goal.invariant-loop-element
invariant-loop-element l = l.all.items ≡ invalidated (take l.element-index l.records) l.path
