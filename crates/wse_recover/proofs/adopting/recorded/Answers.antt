use Rattle.std.proofs.Common.{◌≡◌, List, Option, sym, ap, subst, ◌∙◌}
use Rattle.std.proofs.lemmas.Result.{err_from_is_err_and}
use Rattle.wse_element.specs.declared.effect.Effect.{Effect}
use Rattle.wse_element.specs.Effects.{state_after}
use Rattle.wse_element.specs.Linked.{IsTreeLinkedAt}
use Rattle.wse_element.specs.Record.{Record}
use Rattle.wse_element.specs.State.{Kept, State}
use Rattle.wse_codec.specs.Allowed.{IsSpellable}
use Rattle.wse_disk.specs.LeavesOnly.{LeavesOnly}
use Rattle.wse_txn.specs.Command.{IsAt, StandsForOneOf}
use Rattle.wse_recover.specs.Open.{opened_state, disk_of_open, disk_of_fault}
use Rattle.wse_recover.proofs.ComparingLemmas.{nothing_written, state_linked}
use Rattle.wse_recover.proofs.AdoptingLemmas.{state_is, total_is_low, few_low, spellable, applicable, comes, each_next, leads_nowhere}
use Rattle.wse_recover.proofs.adopting.recorded.Goals as goal

pub entered-requires-clause-few : goal.entered-requires-clause-few
entered-requires-clause-few g c =
    let o = c.args.opened in
    few_low c.args.paths.now (total_is_low c.args.limits.now o.stacks o.versions o.tree.files c.args.paths.now c.requires.within c.count.ensures.bounded c.requires.bounded o.tree.is_tree c.requires.differ c.requires.some c.requires.passes)

pub entered-requires-clause-may : goal.entered-requires-clause-may
entered-requires-clause-may g c =
    let o = c.args.opened in
    applicable c.args.limits.now o.stacks o.versions o.tree.files c.args.paths.now c.requires.within c.count.ensures.bounded c.requires.bounded o.tree.is_tree c.requires.differ c.requires.some c.requires.passes

pub returns-in_default-clause-during : goal.returns-in_default-clause-during
returns-in_default-clause-during g c = λ is.
    let told = g.D.Disk.told in
    let o = c.args.opened in
    nothing_written (told o.idle.disk) (told c.into_disk.result) o.idle.area o.idle.gate (opened_state o) _ c.requires.rests (ap told c.into_disk.ensures) (c.requires.at is)

pub written-requires-clause-spellable : goal.written-requires-clause-spellable
written-requires-clause-spellable g c =
    let o = c.args.opened in
    subst IsSpellable (sym c.in-Ok.ensures.effects)
    (spellable c.args.paths.now c.requires.some (total_is_low c.args.limits.now o.stacks o.versions o.tree.files c.args.paths.now c.requires.within c.count.ensures.bounded c.requires.bounded o.tree.is_tree c.requires.differ c.requires.some c.requires.passes))

pub written-requires-clause-leads : goal.written-requires-clause-leads
written-requires-clause-leads g c =
    let o = c.args.opened in
    leads_nowhere (g.D.Disk.told o.idle.disk) o.idle.area o.idle.gate (opened_state o) c.in-Ok.plan.changes c.in-Ok.ensures.changes o.tree.is_tree c.requires.at

pub returns-in_err-idle-clause-during : goal.returns-in_err-idle-clause-during
returns-in_err-idle-clause-during g c =
    let told = g.D.Disk.told in
    let o = c.args.opened in
    let p = err_from_is_err_and c.from_residual.result c.from_residual.ensures.1 in
    let may = comes c.args.limits.now o.stacks o.versions o.tree.files c.args.paths.now c.requires.within c.count.ensures.bounded c.requires.bounded o.tree.is_tree c.requires.differ c.requires.some c.requires.passes
    c.in-Ok.plan c.in-Ok.ensures.effects c.in-Ok.ensures.changes c.in-Ok.ensures.allowed in
    rw (p.1, p.2) (λ is. subst (λ (es : List Effect). LeavesOnly (told o.idle.disk) (told (disk_of_fault c.in_err-idle.field-0.0)) (StandsForOneOf (opened_state o) (state_after (opened_state o) es))) c.in-Ok.ensures.effects
    (c.in_err-idle.ensures.during (opened_state o) (c.requires.at is) may))

pub returns-clause-adopted : goal.returns-clause-adopted
returns-clause-adopted g c =
    let o = c.args.opened in
    state_is c.args.limits.now o.stacks o.versions o.tree.files c.args.paths.now c.requires.within c.count.ensures.bounded c.requires.bounded o.tree.is_tree c.requires.differ c.requires.some
    c.entered.new.stacks c.entered.new.versions c.in-Ok.ensures.kept

pub returns-clause-at : goal.returns-clause-at
returns-clause-at g c = λ is.
    let told = g.D.Disk.told in
    let o = c.args.opened in
    let may = comes c.args.limits.now o.stacks o.versions o.tree.files c.args.paths.now c.requires.within c.count.ensures.bounded c.requires.bounded o.tree.is_tree c.requires.differ c.requires.some c.requires.passes
    c.in-Ok.plan c.in-Ok.ensures.effects c.in-Ok.ensures.changes c.in-Ok.ensures.allowed in
    subst (λ (es : List Effect). IsAt (state_after (opened_state o) es) c.in_ok-idle.idle.area c.in_ok-idle.idle.gate (told c.in_ok-idle.idle.disk)) c.in-Ok.ensures.effects
    (c.in_ok-idle.ensures.at (opened_state o) (c.requires.at (c.in_ok-idle.ensures.tells.back is)) may)

pub returns-clause-linked : goal.returns-clause-linked
returns-clause-linked g c =
    let o = c.args.opened in
    let new = c.entered.new in
    state_linked new.stacks new.versions o.tree.files o.tree.is_tree c.count-2.ensures.linked c.count-2.ensures.bounded c.in-Ok.ensures.bounded
    (λ p. subst (λ (k : Kept). IsTreeLinkedAt o.tree.files k.records p) (sym c.in-Ok.ensures.kept)
    (each_next c.args.limits.now o.stacks o.versions o.tree.files c.args.paths.now c.requires.within c.count.ensures.bounded c.requires.bounded o.tree.is_tree c.requires.differ c.requires.some c.requires.passes p))

pub returns-clause-during : goal.returns-clause-during
returns-clause-during g c = λ is.
    let told = g.D.Disk.told in
    let o = c.args.opened in
    let may = comes c.args.limits.now o.stacks o.versions o.tree.files c.args.paths.now c.requires.within c.count.ensures.bounded c.requires.bounded o.tree.is_tree c.requires.differ c.requires.some c.requires.passes
    c.in-Ok.plan c.in-Ok.ensures.effects c.in-Ok.ensures.changes c.in-Ok.ensures.allowed in
    subst (λ (es : List Effect). LeavesOnly (told o.idle.disk) (told c.in_ok-idle.idle.disk) (StandsForOneOf (opened_state o) (state_after (opened_state o) es))) c.in-Ok.ensures.effects
    (c.in_ok-idle.ensures.during (opened_state o) (c.requires.at is) may)
