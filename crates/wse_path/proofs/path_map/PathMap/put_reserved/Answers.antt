use Rattle.std.proofs.Common.{◌≡◌, List, true, length, refl, ap, arith}
use Rattle.std.specs.FinMap.{put, is_sorted}
use Rattle.std.specs.List.{insert}
use Rattle.wse_path.specs.Order.{path_cmp}
use Rattle.wse_path.specs.Path.{Path}
use Rattle.wse_path.specs.PathMap.{MapState}
use Rattle.wse_path.proofs.EntryLemmas.{sorted_put}
use Rattle.wse_path.proofs.MergeLemmas.{set_is_put, insert_is_put, length_set, either}
use Rattle.wse_path.proofs.PathOrder.{total}
use Rattle.wse_path.proofs.path_map.PathMap.put_reserved.Goals as goal

pub invariant_of-self-inside : goal.invariant_of-self-inside
invariant_of-self-inside g c =
    let now = set_is_put c.self.inside.row.items c.args.self.now.entries c.set.new.self.items c.args.path c.in-Ok.at (ap (λ (m : MapState g.row.V.Denot). m.entries) c.self.view_is) c.args.value c.args.self.now.rises c.in-Ok.ensures.found.0 c.in-Ok.ensures.found.1 (λ d. c.set.ensures.items d) in
    (rw now (sorted_put total c.args.self.now.entries c.args.path c.args.value c.args.self.now.rises), tt)

pub returns-in-Ok-clause-entries : goal.returns-in-Ok-clause-entries
returns-in-Ok-clause-entries g c = set_is_put c.self.inside.row.items c.args.self.now.entries c.set.new.self.items c.args.path c.in-Ok.at (ap (λ (m : MapState g.row.V.Denot). m.entries) c.self.view_is) c.args.value c.args.self.now.rises c.in-Ok.ensures.found.0 c.in-Ok.ensures.found.1 (λ d. c.set.ensures.items d)

pub invariant_of-self-inside-in-Err : goal.invariant_of-self-inside-in-Err
invariant_of-self-inside-in-Err g c =
    let es = c.self.inside.row.items in
    let new = insert es c.in-Err.at (c.args.path, c.args.value) in
    let now : new ≡ put path_cmp c.args.path c.args.value c.args.self.now.entries = insert_is_put es c.args.self.now.entries new c.args.path c.in-Err.at (ap (λ (m : MapState g.row.V.Denot). m.entries) c.self.view_is) c.args.value c.in-Err.ensures.absent refl in
    (either (λ (l : List (Path × g.row.V.Denot)). is_sorted path_cmp l ≡ true) c.insert.result c.insert.new.self.items new es c.insert.ensures.ok c.insert.ensures.memory (rw now (sorted_put total c.args.self.now.entries c.args.path c.args.value c.args.self.now.rises)) c.self.inside.rises, tt)

pub returns-in-Ok-insert-clause-entries : goal.returns-in-Ok-insert-clause-entries
returns-in-Ok-insert-clause-entries g c =
    insert_is_put c.self.inside.row.items c.args.self.now.entries c.insert.new.self.items c.args.path c.in-Err.at (ap (λ (m : MapState g.row.V.Denot). m.entries) c.self.view_is) c.args.value c.in-Err.ensures.absent c.in-Ok-insert.ensures.ok

pub returns-in-Ok-clause-spare : goal.returns-in-Ok-clause-spare
returns-in-Ok-clause-spare g c =
    omega (
      arith,
      c.set.ensures.capacity,
      ap (λ (m : MapState g.row.V.Denot). m.spare) c.self.view_is,
      ap (λ (m : MapState g.row.V.Denot). length m.entries) c.self.view_is,
      length_set c.self.inside.row.items c.args.self.now.entries c.set.new.self.items c.args.path c.in-Ok.at (ap (λ (m : MapState g.row.V.Denot). m.entries) c.self.view_is) c.args.value c.in-Ok.ensures.found.0 (λ d. c.set.ensures.items d),
    )
