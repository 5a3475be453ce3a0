use Rattle.std.proofs.Common.{◌≡◌, Bool, IfErr, sym, ap, subst}
use Rattle.wse_disk.specs.LeavesOnly.{LeavesOnly}
use Rattle.wse_recover.specs.Comparing.{RefusesCompared}
use Rattle.wse_recover.specs.Open.{opened_state, disk_of_open, StandsForOpened}
use Rattle.wse_recover.proofs.ComparingLemmas.{some_paths, none_differ, compared_same, nothing_done, adopted_leaves, refuses_adopting}
use Rattle.wse_recover.proofs.compared.compared.Goals as goal

pub returns-in_default-clause-during : goal.returns-in_default-clause-during
returns-in_default-clause-during g c =
    let told = g.D.Disk.told in
    let o = c.args.opened in
    nothing_done c.args.adopt (told o.idle.disk) (told c.into_disk.result) o.idle.area o.idle.gate (opened_state o) c.requires.rests (ap told c.into_disk.ensures) c.requires.at

pub returns-in-empty-clause-compared : goal.returns-in-empty-clause-compared
returns-in-empty-clause-compared g c =
    let o = c.args.opened in
    let few = c.in-empty.len_below in
    let shown = c.as_slice.ensures in
    let view = c.paths.view_is in
    let same : c.as_slice.result.now ≡ c.in-Ok.paths = cc in
    compared_same c.args.adopt (opened_state o) (opened_state c.linked.result) (ap opened_state c.linked.ensures.same)
    (none_differ o.tree.files o.stacks.state.records c.in-Ok.paths c.as_slice.result.now same few c.in-Ok.ensures)

pub returns-in-empty-clause-at : goal.returns-in-empty-clause-at
returns-in-empty-clause-at g c = rw c.linked.ensures.same c.requires.at

pub returns-in-empty-clause-tells : goal.returns-in-empty-clause-tells
returns-in-empty-clause-tells g c = rw c.linked.ensures.same (record { on = λ is. is; back = λ is. is })

pub returns-in-empty-clause-during : goal.returns-in-empty-clause-during
returns-in-empty-clause-during g c =
    let told = g.D.Disk.told in
    let o = c.args.opened in
    nothing_done c.args.adopt (told o.idle.disk) (told c.linked.result.idle.disk) o.idle.area o.idle.gate (opened_state o) c.requires.rests (ap (λ x. told x.idle.disk) c.linked.ensures.same) c.requires.at

pub returns-in-len1-up-clause-during : goal.returns-in-len1-up-clause-during
returns-in-len1-up-clause-during g c =
    let told = g.D.Disk.told in
    let o = c.args.opened in
    nothing_done c.args.adopt (told o.idle.disk) _ o.idle.area o.idle.gate (opened_state o) c.requires.rests (ap told c.refused_at.ensures.disk) c.requires.at

pub returns-in_default-as_slice-clause-during : goal.returns-in_default-as_slice-clause-during
returns-in_default-as_slice-clause-during g c = λ is.
    let told = g.D.Disk.told in
    let o = c.args.opened in
    let shown = c.as_slice.ensures in
    let view = c.paths.view_is in
    let same : c.as_slice.result.now ≡ c.in-Ok.paths = cc in
    let adopts = c.if-not-adopt.false in
    subst (λ (b : Bool). LeavesOnly (told o.idle.disk) (told (disk_of_open c.adopted.result)) (StandsForOpened b (opened_state o))) (sym adopts)
    (adopted_leaves (told o.idle.disk) (told (disk_of_open c.adopted.result)) (opened_state o) c.in-Ok.paths (some_paths c.in-Ok.paths c.as_slice.result.now same c.in-len1-up.len_at_least) c.in-Ok.ensures (c.adopted.ensures.during is))

pub returns-in_default-as_slice-clause-refused : goal.returns-in_default-as_slice-clause-refused
returns-in_default-as_slice-clause-refused g c =
    let told = g.D.Disk.told in
    let o = c.args.opened in
    let shown = c.as_slice.ensures in
    let view = c.paths.view_is in
    let same : c.as_slice.result.now ≡ c.in-Ok.paths = cc in
    let adopts = c.if-not-adopt.false in
    subst (λ (b : Bool). IfErr c.adopted.result (RefusesCompared told b c.args.limits.now o)) (sym adopts)
    (refuses_adopting told c.args.limits.now o c.in-Ok.paths c.adopted.result (some_paths c.in-Ok.paths c.as_slice.result.now same c.in-len1-up.len_at_least) c.in-Ok.ensures c.adopted.ensures.refused)
