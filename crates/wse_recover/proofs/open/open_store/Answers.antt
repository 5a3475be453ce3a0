use Rattle.std.proofs.Common.{IfOk, Result, Ok, Err}
use Rattle.std.proofs.lemmas.Result.{err_from_is_err_and}
use Rattle.wse_disk.specs.Told.{WhereTold}
use Rattle.wse_recover.specs.Open.{opened_state, disk_of_open, disk_of_fault, fault_may_adopt}
use Rattle.wse_recover.proofs.ComparingLemmas.{is_opened, adopts_within, found_leaves, opened_leaves, leaves_opening, tells_on, refuses_open}
use Rattle.wse_recover.proofs.open.open_store.Goals as goal

if_ok : {T E : Type 0} (P Q : T → Type 0) (result : Result T E) → ((x : T) → P x → Q x) → IfOk result P → IfOk result Q
if_ok P Q (Ok x) f p = f x p
if_ok P Q (Err e) f p = tt

pub returns-in_err-opened-clause-during : goal.returns-in_err-opened-clause-during
returns-in_err-opened-clause-during g c =
    let told = g.D.Disk.told in
    let p = err_from_is_err_and c.from_residual.result c.from_residual.ensures.1 in
    rw (p.1, p.2) (λ s stands. found_leaves (fault_may_adopt c.args.adopt c.in_err-opened.field-0.0) (told c.args.disk) (told (disk_of_fault c.in_err-opened.field-0.0)) s (c.in_err-opened.ensures.during s stands))

pub returns-clause-opened : goal.returns-clause-opened
returns-clause-opened g c =
    let told = g.D.Disk.told in
    if_ok _ _ c.compared.result (λ o is. is_opened c.args.adopt c.args.limits.now (told c.args.disk) (opened_state c.in_ok-opened.opened) (opened_state o) c.in_ok-opened.ensures.stood is) c.compared.ensures.compared

pub returns-clause-adopts : goal.returns-clause-adopts
returns-clause-adopts g c =
    let told = g.D.Disk.told in
    if_ok _ _ c.compared.result (λ o is. adopts_within c.args.adopt c.args.limits.now (told c.args.disk) (opened_state c.in_ok-opened.opened) (opened_state o) c.in_ok-opened.ensures.stood is) c.compared.ensures.adopts

pub returns-clause-tells : goal.returns-clause-tells
returns-clause-tells g c =
    let told = g.D.Disk.told in
    if_ok _ _ c.compared.result (λ o is. tells_on (told c.args.disk) (told c.in_ok-opened.opened.idle.disk) (told o.idle.disk) c.in_ok-opened.ensures.tells is) c.compared.ensures.tells

pub returns-clause-during : goal.returns-clause-during
returns-clause-during g c = λ s stands.
    let told = g.D.Disk.told in
    let o = c.in_ok-opened.opened in
    let before = c.in_ok-opened.ensures.during s stands in
    leaves_opening told c.args.adopt c.args.limits.now c.args.disk o s before c.compared.result c.compared.ensures.refused
    (opened_leaves c.args.adopt (told c.args.disk) (told o.idle.disk) (opened_state o) c.in_ok-opened.ensures.stood (told (disk_of_open c.compared.result)) c.in_ok-opened.ensures.tells c.compared.ensures.during s stands
    before)

pub returns-clause-refused : goal.returns-clause-refused
returns-clause-refused g c =
    let o = c.in_ok-opened.opened in
    refuses_open g.D.Disk.told g.D.Disk.faults c.args.adopt c.args.limits.now c.args.disk o c.in_ok-opened.ensures.stood c.in_ok-opened.ensures.tells c.in_ok-opened.ensures.at c.in_ok-opened.ensures.starts c.in_ok-opened.ensures.counts
    c.compared.result c.compared.ensures.refused c.compared.ensures.counts
