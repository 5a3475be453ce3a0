use Rattle.std.proofs.Common.{arith}
use Rattle.wse_path.proofs.MergeLemmas.{room_left}
use Rattle.wse_path.proofs.merge.restore.Goals as goal

pub push-requires : goal.push-requires
push-requires g c =
    let inv = c.loop-path.invariant in
    omega (arith, inv.row_capacity, room_left c.loop-path.row.items c.loop-path.rest.items c.args.row.now.items c.args.rest.now.items c.pop.new.self.items (c.in-Some.path, c.in-Some.value) c.args.row.now.capacity inv.same c.in-Some.ensures.items c.requires)
