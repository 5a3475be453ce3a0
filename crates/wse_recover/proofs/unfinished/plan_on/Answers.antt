use Rattle.std.proofs.Common.{◌≡◌, Some, None, sym, ◌∙◌}
use Rattle.std.specs.Prelude.{slice_get}
use Rattle.wse_element.specs.Way.{in_the_way}
use Rattle.wse_path.specs.Tree.{set_files}
use Rattle.wse_path.specs.Changes.{changes_between}
use Rattle.wse_recover.proofs.OpenedLemmas.{way_told, plan_for}
use Rattle.wse_recover.proofs.unfinished.plan_on.Goals as goal

pub returns-in-Some-clause-refused : goal.returns-in-Some-clause-refused
returns-in-Some-clause-refused g c =
    let a = c.in_ok-path.ensures in
    let b = c.in-Some.is in
    let d = c.as_slice.ensures in
    let e = c.sets.view_is in
    let first : slice_get (in_the_way c.in_ok-tree.tree.files c.args.last.sets) 0 ≡ Some c.in-Some.path = cc in
    way_told (g.D.Disk.told c.args.disk.now) c.in_ok-tree.tree.files c.args.last.sets c.in-Some.path c.in_ok-tree.ensures.loaded first

pub returns-clause-plan : goal.returns-clause-plan
returns-clause-plan g c =
    let a = c.in_ok-path.ensures in
    let d = c.as_slice.ensures in
    let e = c.sets.view_is in
    let x = c.in_default.is in
    let z = c.in_ok-changes.ensures in
    let are : c.in_ok-changes.changes ≡ changes_between c.in_ok-tree.tree.files (set_files c.args.last.sets c.in_ok-tree.tree.files) = cc in
    let none : slice_get (in_the_way c.in_ok-tree.tree.files c.args.last.sets) 0 ≡ None = cc in
    plan_for (g.D.Disk.told c.args.disk.now) c.in_ok-tree.tree.files c.args.last c.in_ok-changes.changes c.in_ok-tree.ensures.loaded c.in_ok-tree.tree.is_tree none are
