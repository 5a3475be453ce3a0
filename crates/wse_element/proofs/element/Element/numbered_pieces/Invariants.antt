use Rattle.std.proofs.Common.{◌≡◌, take}
use Rattle.wse_element.proofs.SplitLemmas.{pieces_among}
use Rattle.wse_element.proofs.element.Element.numbered_pieces.Given as goal

abbrev pub invariant-loop-part : goal.invariant-loop-part
invariant-loop-part l = l.all.items ≡ pieces_among l.self (take l.part-index l.part-items) l.next_id
