use Rattle.std.proofs.Common.{length, ap, arith}
use Rattle.wse_path.specs.PathMap.{MapState}
use Rattle.wse_path.proofs.EntryLemmas.{sorted_remove_at}
use Rattle.wse_path.proofs.PathOrder.{total}
use Rattle.wse_path.proofs.path_map.PathMap.remove_at.Goals as goal

pub invariant_of-self-inside : goal.invariant_of-self-inside
invariant_of-self-inside g c =
    (rw c.remove.ensures.items (sorted_remove_at total c.self.inside.row.items c.args.at c.self.inside.rises (omega (arith, ap (λ (m : MapState g.row.V.Denot). length m.entries) c.self.view_is))), tt)
