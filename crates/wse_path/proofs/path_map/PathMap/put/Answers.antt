use Rattle.std.proofs.Common.{◌≡◌, List, true, refl, ap}
use Rattle.std.specs.FinMap.{put, is_sorted}
use Rattle.std.specs.List.{insert}
use Rattle.wse_path.specs.Order.{path_cmp}
use Rattle.wse_path.specs.Path.{Path}
use Rattle.wse_path.specs.PathMap.{MapState}
use Rattle.wse_path.proofs.EntryLemmas.{sorted_put}
use Rattle.wse_path.proofs.MergeLemmas.{set_is_put, insert_is_put, either}
use Rattle.wse_path.proofs.PathOrder.{total}
use Rattle.wse_path.proofs.path_map.PathMap.put.Goals as goal

pub invariant_of-self-inside : goal.invariant_of-self-inside
invariant_of-self-inside g c =
    let now = set_is_put c.self.inside.row.items c.args.self.now.entries c.set.new.self.items c.args.path c.in-Ok.at (ap (λ (m : MapState g.row.V.Denot). m.entries) c.self.view_is) c.args.value c.args.self.now.rises c.in-Ok.ensures.found.0 c.in-Ok.ensures.found.1 (λ d. c.set.ensures.items d) in
    (rw now (sorted_put total c.args.self.now.entries c.args.path c.args.value c.args.self.now.rises), tt)

pub returns-in-Ok-clause-ok : goal.returns-in-Ok-clause-ok
returns-in-Ok-clause-ok g c = set_is_put c.self.inside.row.items c.args.self.now.entries c.set.new.self.items c.args.path c.in-Ok.at (ap (λ (m : MapState g.row.V.Denot). m.entries) c.self.view_is) c.args.value c.args.self.now.rises c.in-Ok.ensures.found.0 c.in-Ok.ensures.found.1 (λ d. c.set.ensures.items d)

pub invariant_of-self-inside-in-Err : goal.invariant_of-self-inside-in-Err
invariant_of-self-inside-in-Err g c =
    let es = c.self.inside.row.items in
    let new = insert es c.in-Err.at (c.args.path, c.args.value) in
    let now : new ≡ put path_cmp c.args.path c.args.value c.args.self.now.entries = insert_is_put es c.args.self.now.entries new c.args.path c.in-Err.at (ap (λ (m : MapState g.row.V.Denot). m.entries) c.self.view_is) c.args.value c.in-Err.ensures.absent refl in
    (either (λ (l : List (Path × g.row.V.Denot)). is_sorted path_cmp l ≡ true) c.insert.result c.insert.new.self.items new es c.insert.ensures.ok c.insert.ensures.memory (rw now (sorted_put total c.args.self.now.entries c.args.path c.args.value c.args.self.now.rises)) c.self.inside.rises, tt)

pub returns-in_ok-insert-in-Err-clause-ok : goal.returns-in_ok-insert-in-Err-clause-ok
returns-in_ok-insert-in-Err-clause-ok g c =
    insert_is_put c.self.inside.row.items c.args.self.now.entries c.insert.new.self.items c.args.path c.in-Err.at (ap (λ (m : MapState g.row.V.Denot). m.entries) c.self.view_is) c.args.value c.in-Err.ensures.absent c.in_ok-insert-in-Err.ensures.ok
