use Rattle.std.proofs.Common.{Option, sym, subst}
use Rattle.std.proofs.lemmas.Result.{err_from_is_err_and}
use Rattle.wse_disk.specs.Standing.{Standing}
use Rattle.wse_disk.specs.LeavesOnly.{LeavesOnly}
use Rattle.wse_txn.specs.Stands.{StandsFor}
use Rattle.wse_recover.proofs.OpenedLemmas.{settled_there, stood, at_opened, same_after, refused_by}
use Rattle.wse_recover.proofs.found.found_by.Goals as goal

pub returns-in_err-disk-clause-during : goal.returns-in_err-disk-clause-during
returns-in_err-disk-clause-during g c =
    let p = err_from_is_err_and c.from_residual.result c.from_residual.ensures.1 in
    rw (p.1, p.2) c.in_err-disk.ensures.during

pub with_tree-requires-clause-journal : goal.with_tree-requires-clause-journal
with_tree-requires-clause-journal g c =
    settled_there (g.D.Disk.told c.args.disk) (g.D.Disk.told c.in_ok-disk.disk) c.args.journal c.requires.journal c.in_ok-disk.ensures.at c.in_ok-disk.ensures.tells

pub returns-clause-stood : goal.returns-clause-stood
returns-clause-stood g c =
    stood g.D.Disk.told c.args.disk c.args.journal c.requires.journal c.in_ok-disk.disk c.in_ok-disk.ensures.at c.in_ok-disk.ensures.tells c.with_tree.result c.with_tree.ensures.found

pub returns-clause-at : goal.returns-clause-at
returns-clause-at g c =
    at_opened g.D.Disk.told c.args.disk c.args.journal c.requires.journal c.in_ok-disk.disk c.in_ok-disk.ensures.at c.in_ok-disk.ensures.tells c.with_tree.result c.with_tree.ensures.found

pub returns-clause-during : goal.returns-clause-during
returns-clause-during g c = λ s stands.
    let told = g.D.Disk.told in
    let same = same_after told c.args.disk c.args.journal c.requires.journal c.in_ok-disk.disk c.in_ok-disk.ensures.at c.in_ok-disk.ensures.tells c.args.limits.now c.with_tree.result c.with_tree.ensures.found c.with_tree.ensures.refused in
    subst (λ (t : Option Standing). LeavesOnly (told c.args.disk) t (StandsFor s)) (sym same) (c.in_ok-disk.ensures.during s stands)

pub returns-clause-refused : goal.returns-clause-refused
returns-clause-refused g c =
    refused_by g.D.Disk.told c.args.disk c.args.journal c.requires.journal c.in_ok-disk.disk c.in_ok-disk.ensures.at c.in_ok-disk.ensures.tells c.args.limits.now c.with_tree.result c.with_tree.ensures.refused
