use Rattle.std.proofs.Common.{is_some, ap, sym}
use Rattle.wse_path.specs.PathMap.{MapState}
use Rattle.wse_path.proofs.EntryLemmas.{find_gap, found_place, remove_gap, sorted_remove}
use Rattle.wse_path.proofs.MergeLemmas.{remove_is_without}
use Rattle.wse_path.proofs.PathOrder.{total}
use Rattle.wse_path.proofs.path_map.PathMap.remove.Goals as goal

pub invariant_of-self-inside : goal.invariant_of-self-inside
invariant_of-self-inside g c =
    let now = remove_is_without c.self.inside.row.items c.args.self.now.entries c.remove.new.self.items c.args.path.now c.in-Ok.at (ap (λ (m : MapState g.row.V.Denot). m.entries) c.self.view_is) c.args.self.now.rises c.in-Ok.ensures.found.0 c.in-Ok.ensures.found.1 c.remove.ensures.items in
    (rw now (sorted_remove total c.args.self.now.entries c.args.path.now c.args.self.now.rises), tt)

pub returns-in-Ok-clause-entries : goal.returns-in-Ok-clause-entries
returns-in-Ok-clause-entries g c =
    remove_is_without c.self.inside.row.items c.args.self.now.entries c.remove.new.self.items c.args.path.now c.in-Ok.at (ap (λ (m : MapState g.row.V.Denot). m.entries) c.self.view_is) c.args.self.now.rises c.in-Ok.ensures.found.0 c.in-Ok.ensures.found.1 c.remove.ensures.items

pub returns-in-Ok-clause-was : goal.returns-in-Ok-clause-was
returns-in-Ok-clause-was g c = sym (found_place total c.args.self.now.entries c.args.path.now c.in-Ok.at c.args.self.now.rises c.in-Ok.ensures.found.0 c.in-Ok.ensures.found.1)

pub returns-in-Err-clause-entries : goal.returns-in-Err-clause-entries
returns-in-Err-clause-entries g c = sym (remove_gap total c.args.self.now.entries c.args.path.now c.in-Err.field-0 c.in-Err.ensures.absent)

pub returns-in-Err-clause-was : goal.returns-in-Err-clause-was
returns-in-Err-clause-was g c = ap is_some (sym (find_gap total c.args.self.now.entries c.args.path.now c.in-Err.field-0 c.in-Err.ensures.absent))
