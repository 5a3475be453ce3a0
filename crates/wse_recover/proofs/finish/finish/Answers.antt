use Rattle.std.proofs.Common.{ℕ, sym, subst, ◌∙◌}
use Rattle.wse_element.specs.declared.plan.Plan.{Plan}
use Rattle.wse_disk.specs.declared.area.Area.{Area}
use Rattle.wse_disk.specs.LeavesOnly.{LeavesOnly}
use Rattle.wse_txn.specs.Stands.{StandsFor}
use Rattle.wse_txn.specs.Command.{IsAt}
use Rattle.wse_recover.proofs.FinishedLemmas.{CloseLeaves, CloseGives, leaves_changing, leaves_closing, is_at}
use Rattle.wse_recover.proofs.finish.finish.Goals as goal

pub returns-clause-during : goal.returns-clause-during
returns-clause-during g c = λ s is.
    let told = g.D.Disk.told in
    let x = c.args.sealed in
    subst (λ d. LeavesOnly (told x.disk) (told d) (StandsFor s)) (sym c.into_disk-in-Err.ensures)
    (leaves_changing s x.area x.gate x.plan (told x.disk) is (told c.in-Err.broken) c.in-Err.ensures.during)

pub returns-in-Ok-clause-during : goal.returns-in-Ok-clause-during
returns-in-Ok-clause-during g c = λ s is.
    let told = g.D.Disk.told in
    let x = c.args.sealed in
    let z = c.in-Ok.settled in
    let end = c.in-Err-close.broken in
    let same = c.in-Ok.ensures.same in
    let closes : CloseLeaves x.plan x.area x.gate (told z.disk) (told end) =
    subst (λ (n : ℕ). CloseLeaves x.plan x.area n (told z.disk) (told end)) same.1
    (subst (λ (a : Area). CloseLeaves x.plan a z.gate (told z.disk) (told end)) same.0
    (subst (λ (p : Plan). CloseLeaves p z.area z.gate (told z.disk) (told end)) same.2 c.in-Err-close.ensures.during)) in
    subst (λ d. LeavesOnly (told x.disk) (told d) (StandsFor s)) (sym c.into_disk.ensures)
    (leaves_closing s x.area x.gate x.plan (told x.disk) is (told z.disk) c.in-Ok.ensures.during c.in-Ok.ensures.changed (told end) closes)

pub returns-in-Ok-close-clause-during : goal.returns-in-Ok-close-clause-during
returns-in-Ok-close-clause-during g c = λ s is.
    let told = g.D.Disk.told in
    let x = c.args.sealed in
    let z = c.in-Ok.settled in
    let end = c.in-Ok-close.idle.disk in
    let same = c.in-Ok.ensures.same in
    let closes : CloseLeaves x.plan x.area x.gate (told z.disk) (told end) =
    subst (λ (n : ℕ). CloseLeaves x.plan x.area n (told z.disk) (told end)) same.1
    (subst (λ (a : Area). CloseLeaves x.plan a z.gate (told z.disk) (told end)) same.0
    (subst (λ (p : Plan). CloseLeaves p z.area z.gate (told z.disk) (told end)) same.2 c.in-Ok-close.ensures.during)) in
    leaves_closing s x.area x.gate x.plan (told x.disk) is (told z.disk) c.in-Ok.ensures.during c.in-Ok.ensures.changed (told end) closes

pub returns-in-Ok-close-clause-at : goal.returns-in-Ok-close-clause-at
returns-in-Ok-close-clause-at g c = λ s is.
    let told = g.D.Disk.told in
    let x = c.args.sealed in
    let z = c.in-Ok.settled in
    let idle = c.in-Ok-close.idle in
    let same = c.in-Ok.ensures.same in
    let has : CloseGives x.plan x.area x.gate (told z.disk) (told idle.disk) =
    subst (λ (n : ℕ). CloseGives x.plan x.area n (told z.disk) (told idle.disk)) same.1
    (subst (λ (a : Area). CloseGives x.plan a z.gate (told z.disk) (told idle.disk)) same.0
    (subst (λ (p : Plan). CloseGives p z.area z.gate (told z.disk) (told idle.disk)) same.2 c.in-Ok-close.ensures.closed)) in
    let now = is_at s x.area x.gate x.plan (told x.disk) is (told z.disk) c.in-Ok.ensures.during c.in-Ok.ensures.changed (told idle.disk) has in
    subst (λ (n : ℕ). IsAt s idle.area n (told idle.disk)) (sym (c.in-Ok-close.ensures.same.1 ∙ same.1))
    (subst (λ (a : Area). IsAt s a x.gate (told idle.disk)) (sym (c.in-Ok-close.ensures.same.0 ∙ same.0)) now)
