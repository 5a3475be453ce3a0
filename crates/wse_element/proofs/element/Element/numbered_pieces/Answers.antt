use Rattle.std.proofs.Common.{◌+◌, ◌^◌, ◌<◌, length, take, ap, ◌∙◌, arith}
use Rattle.std.proofs.lemmas.List.{length-take}
use Rattle.wse_element.specs.Record.{Record}
use Rattle.wse_element.proofs.SplitLemmas.{length-pieces-le, pieces_step}
use Rattle.wse_element.proofs.element.Element.numbered_pieces.Goals as goal

pub add_piece-requires : goal.add_piece-requires
add_piece-requires c =
    let parts = c.as_slice-part-items.result.now in
    let view = ap (λ (r : Record). length r.parts) c.self.view_is in
    let few = length-pieces-le c.args.self.now (take c.loop-part.part-index parts) c.args.next_id in
    let fits : c.args.next_id + length c.loop-part.all.items < 2 ^ 64 = omega (arith, view, few, ap length c.as_slice-part-items.ensures.value, ap length c.loop-part.invariant, length-take c.loop-part.part-index parts, c.requires) in
    fits

pub loop-part-preserved : goal.loop-part-preserved
loop-part-preserved c =
    c.in_ok-add_piece.ensures
    ∙ pieces_step c.args.self.now c.as_slice-part-items.result.now c.loop-part.part-index c.args.next_id c.part-item.result c.loop-part.all.items (omega arith) c.part-item.is c.loop-part.invariant
