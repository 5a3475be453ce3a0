use Rattle.std.proofs.Common.{ℕ, sym, subst, ◌∙◌}
use Rattle.wse_element.specs.declared.plan.Plan.{Plan}
use Rattle.wse_element.specs.Effects.{state_after}
use Rattle.wse_disk.specs.declared.area.Area.{Area}
use Rattle.wse_disk.specs.Told.{reading_of}
use Rattle.wse_disk.specs.LeavesOnly.{LeavesOnly}
use Rattle.wse_disk.specs.Changes.{HasChanged, ChangesOnly}
use Rattle.wse_log.specs.Writing.{next_gate}
use Rattle.wse_txn.specs.States.{body_of}
use Rattle.wse_txn.specs.Command.{IsAt}
use Rattle.wse_txn.specs.Laws.{LeavesOneOf}
use Rattle.wse_txn.proofs.WriteLemmas.{CloseLeaves, CloseGives, leaves_sealing, leaves_changing, leaves_closing, is_at}
use Rattle.wse_txn.proofs.command.write.Goals as goal

pub returns-in-Err-clause-during : goal.returns-in-Err-clause-during
returns-in-Err-clause-during g c = λ s is may.
    let told = g.D.Disk.told in
    let x = c.args.drafted in
    subst (λ d. LeavesOneOf s x.plan (told x.disk) (told d)) (sym c.into_disk-in-Err.ensures)
    (leaves_sealing s x.plan x.area x.gate (told x.disk) is may (told c.in-Err.broken) c.in-Err.ensures.during)

pub returns-in-Err-settle-clause-during : goal.returns-in-Err-settle-clause-during
returns-in-Err-settle-clause-during g c = λ s is may.
    let told = g.D.Disk.told in
    let x = c.args.drafted in
    let y = c.in-Ok.sealed in
    subst (λ d. LeavesOneOf s x.plan (told x.disk) (told d)) (sym c.into_disk-in-Err-settle.ensures)
    (leaves_changing s x.plan x.area x.gate (told x.disk) is may (told y.disk) c.in-Ok.ensures.during c.in-Ok.ensures.sealed (told c.in-Err-settle.broken)
    (subst (λ (p : Plan). LeavesOnly (told y.disk) (told c.in-Err-settle.broken) (ChangesOnly p.changes (reading_of (told y.disk)))) c.in-Ok.ensures.same.1 c.in-Err-settle.ensures.during))

pub returns-in-Err-close-clause-during : goal.returns-in-Err-close-clause-during
returns-in-Err-close-clause-during g c = λ s is may.
    let told = g.D.Disk.told in
    let x = c.args.drafted in
    let y = c.in-Ok.sealed in
    let z = c.in-Ok-settle.settled in
    let same = c.in-Ok-settle.ensures.same in
    let settles : CloseLeaves x.plan x.area _ (told z.disk) (told c.in-Err-close.broken) =
    subst (λ (n : ℕ). CloseLeaves x.plan x.area n (told z.disk) (told c.in-Err-close.broken)) (same.1 ∙ c.in-Ok.ensures.gate)
    (subst (λ (a : Area). CloseLeaves x.plan a z.gate (told z.disk) (told c.in-Err-close.broken)) (same.0 ∙ c.in-Ok.ensures.same.0)
    (subst (λ (p : Plan). CloseLeaves p z.area z.gate (told z.disk) (told c.in-Err-close.broken)) (same.2 ∙ c.in-Ok.ensures.same.1) c.in-Err-close.ensures.during)) in
    subst (λ d. LeavesOneOf s x.plan (told x.disk) (told d)) (sym c.into_disk.ensures)
    (leaves_closing s x.plan x.area x.gate (told x.disk) is may (told y.disk) c.in-Ok.ensures.during c.in-Ok.ensures.sealed (told z.disk)
    (subst (λ (p : Plan). LeavesOnly (told y.disk) (told z.disk) (ChangesOnly p.changes (reading_of (told y.disk)))) c.in-Ok.ensures.same.1 c.in-Ok-settle.ensures.during)
    (subst (λ (p : Plan). HasChanged p.changes (told y.disk) (told z.disk)) c.in-Ok.ensures.same.1 c.in-Ok-settle.ensures.changed)
    (told c.in-Err-close.broken) settles)

pub returns-in-Ok-close-clause-during : goal.returns-in-Ok-close-clause-during
returns-in-Ok-close-clause-during g c = λ s is may.
    let told = g.D.Disk.told in
    let x = c.args.drafted in
    let y = c.in-Ok.sealed in
    let z = c.in-Ok-settle.settled in
    let end = c.in-Ok-close.closed.0.disk in
    let same = c.in-Ok-settle.ensures.same in
    let settles : CloseLeaves x.plan x.area _ (told z.disk) (told end) =
    subst (λ (n : ℕ). CloseLeaves x.plan x.area n (told z.disk) (told end)) (same.1 ∙ c.in-Ok.ensures.gate)
    (subst (λ (a : Area). CloseLeaves x.plan a z.gate (told z.disk) (told end)) (same.0 ∙ c.in-Ok.ensures.same.0)
    (subst (λ (p : Plan). CloseLeaves p z.area z.gate (told z.disk) (told end)) (same.2 ∙ c.in-Ok.ensures.same.1) c.in-Ok-close.ensures.during)) in
    leaves_closing s x.plan x.area x.gate (told x.disk) is may (told y.disk) c.in-Ok.ensures.during c.in-Ok.ensures.sealed (told z.disk)
    (subst (λ (p : Plan). LeavesOnly (told y.disk) (told z.disk) (ChangesOnly p.changes (reading_of (told y.disk)))) c.in-Ok.ensures.same.1 c.in-Ok-settle.ensures.during)
    (subst (λ (p : Plan). HasChanged p.changes (told y.disk) (told z.disk)) c.in-Ok.ensures.same.1 c.in-Ok-settle.ensures.changed)
    (told end) settles

pub returns-in-Ok-close-clause-stands : goal.returns-in-Ok-close-clause-stands
returns-in-Ok-close-clause-stands g c = λ s is may.
    let told = g.D.Disk.told in
    let x = c.args.drafted in
    let y = c.in-Ok.sealed in
    let z = c.in-Ok-settle.settled in
    let end = c.in-Ok-close.closed.0.disk in
    let same = c.in-Ok-settle.ensures.same in
    let gate = same.1 ∙ c.in-Ok.ensures.gate in
    let area = same.0 ∙ c.in-Ok.ensures.same.0 in
    let plan = same.2 ∙ c.in-Ok.ensures.same.1 in
    let settles : CloseLeaves x.plan x.area _ (told z.disk) (told end) =
    subst (λ (n : ℕ). CloseLeaves x.plan x.area n (told z.disk) (told end)) gate
    (subst (λ (a : Area). CloseLeaves x.plan a z.gate (told z.disk) (told end)) area
    (subst (λ (p : Plan). CloseLeaves p z.area z.gate (told z.disk) (told end)) plan c.in-Ok-close.ensures.during)) in
    let has : CloseGives x.plan x.area _ (told z.disk) (told end) =
    subst (λ (n : ℕ). CloseGives x.plan x.area n (told z.disk) (told end)) gate
    (subst (λ (a : Area). CloseGives x.plan a z.gate (told z.disk) (told end)) area
    (subst (λ (p : Plan). CloseGives p z.area z.gate (told z.disk) (told end)) plan c.in-Ok-close.ensures.closed)) in
    let now = is_at s x.plan x.area x.gate (told x.disk) is may (told y.disk) c.in-Ok.ensures.during c.in-Ok.ensures.sealed (told z.disk)
    (subst (λ (p : Plan). LeavesOnly (told y.disk) (told z.disk) (ChangesOnly p.changes (reading_of (told y.disk)))) c.in-Ok.ensures.same.1 c.in-Ok-settle.ensures.during)
    (subst (λ (p : Plan). HasChanged p.changes (told y.disk) (told z.disk)) c.in-Ok.ensures.same.1 c.in-Ok-settle.ensures.changed)
    (told end) settles has in
    subst (λ (n : ℕ). IsAt (state_after s x.plan.effects) c.in-Ok-close.closed.0.area n (told end)) (sym (c.in-Ok-close.ensures.same.1 ∙ gate))
    (subst (λ (a : Area). IsAt (state_after s x.plan.effects) a (next_gate x.gate (body_of x.plan)) (told end)) (sym (c.in-Ok-close.ensures.same.0 ∙ area)) now)
