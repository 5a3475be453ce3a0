use Rattle.std.proofs.Common.{◌+◌, ◌^◌, ◌<◌, length, ap, arith}
use Rattle.wse_element.specs.Record.{Record}
use Rattle.wse_element.proofs.element.Element.pieces.Goals as goal

pub numbered_pieces-requires : goal.numbered_pieces-requires
numbered_pieces-requires c =
    let same = ap (λ (r : Record). length r.parts) c.self.view_is in
    let small : c.self.inside.parts.cap < 2 ^ 63 = c.self.inside.parts.small in
    let fits : c.args.next_id + length c.args.self.now.parts < 2 ^ 64 = omega (arith, same, small, c.self.inside.parts.ok, c.requires) in
    fits
