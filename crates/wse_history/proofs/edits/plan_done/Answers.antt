use Rattle.std.proofs.Common.{◌∙◌, ap, sym, subst}
use Rattle.std.specs.List.{All}
use Rattle.std.specs.FinMap.{is_sorted}
use Rattle.wse_path.specs.Order.{path_cmp}
use Rattle.wse_element.specs.State.{StacksState}
use Rattle.wse_element.specs.Effects.{versions_after_each, state_after}
use Rattle.wse_stacks.specs.Image.{IsSmall}
use Rattle.wse_history.specs.declared.planned.Planned.{Planned}
use Rattle.wse_history.specs.Edits.{edit_effects, edit_hit}
use Rattle.wse_history.specs.Planning.{MayRecord}
use Rattle.wse_history.specs.Done.{pairs_of, raised, with_versions}
use Rattle.wse_history.specs.Written.{IsWrittenEffect}
use Rattle.wse_history.specs.Plans.{recorded_as}
use Rattle.wse_history.proofs.RaisedLemmas.{raised_sorted}
use Rattle.wse_history.proofs.PlanLemmas.{no_effects, some_effects, versions_are, Plans, plans_none, plans_refused, plans_recorded, may_record, small_effects}
use Rattle.wse_history.proofs.edits.plan_done.Goals as goal

pub returns-then-is_empty-clause-planned : goal.returns-then-is_empty-clause-planned
returns-then-is_empty-clause-planned c =
    let limits = c.args.history.now.limits in
    let s = c.args.history.now.state in
    let edit = c.args.edit.now in
    let done = c.args.done in
    subst (Plans limits s edit done) (sym c.unrecorded.ensures)
    (plans_none limits s edit done (no_effects c.in_ok-effects.effects (edit_effects s edit done) c.in_ok-effects.ensures (sym c.is_empty.ensures ∙ c.if-is_empty.true)))

pub edit_hit-requires-clause-small : goal.edit_hit-requires-clause-small
edit_hit-requires-clause-small c =
    subst (All IsSmall) (sym (c.as_slice-3.ensures ∙ c.in_ok-effects.ensures)) (small_effects c.args.history.now.state c.args.edit.now c.args.done)

pub edit_hit-requires-clause-rises : goal.edit_hit-requires-clause-rises
edit_hit-requires-clause-rises c =
    let s = c.args.history.now.state in
    ap (λ cs. is_sorted path_cmp (pairs_of cs)) (c.as_slice-4.ensures ∙ c.in_ok-changed.ensures ∙ ap (raised s.versions) c.as_slice.ensures)
    ∙ raised_sorted s.versions c.args.done.bumps c.requires.is.sorted

pub edit_hit-requires-clause-versions : goal.edit_hit-requires-clause-versions
edit_hit-requires-clause-versions c =
    let s = c.args.history.now.state in
    ap (versions_after_each s.versions) (c.as_slice-3.ensures ∙ c.in_ok-effects.ensures)
    ∙ versions_are s c.args.edit.now c.args.done c.requires.is.sorted
    ∙ sym (ap (λ cs. with_versions cs s.versions) (c.as_slice-4.ensures ∙ c.in_ok-changed.ensures ∙ ap (raised s.versions) c.as_slice.ensures))

pub returns-in-Some-clause-planned : goal.returns-in-Some-clause-planned
returns-in-Some-clause-planned c =
    let limits = c.args.history.now.limits in
    let s = c.args.history.now.state in
    let edit = c.args.edit.now in
    let done = c.args.done in
    let some = some_effects c.in_ok-effects.effects (edit_effects s edit done) c.in_ok-effects.ensures (sym c.is_empty.ensures ∙ c.if-is_empty.false) in
    let hit = sym (c.in_ok-hit.ensures ∙ ap (λ es. edit_hit limits (state_after s es)) (c.as_slice-3.ensures ∙ c.in_ok-effects.ensures)) ∙ c.in-Some.is in
    subst (Plans limits s edit done) (sym c.refused.ensures) (plans_refused limits s edit done some c.in-Some.hit hit)

pub returns-in-None-clause-planned : goal.returns-in-None-clause-planned
returns-in-None-clause-planned c =
    let limits = c.args.history.now.limits in
    let s = c.args.history.now.state in
    let edit = c.args.edit.now in
    let done = c.args.done in
    let effects = c.in_ok-effects.ensures in
    let some = some_effects c.in_ok-effects.effects (edit_effects s edit done) effects (sym c.is_empty.ensures ∙ c.if-is_empty.false) in
    let none = sym (c.in_ok-hit.ensures ∙ ap (λ es. edit_hit limits (state_after s es)) (c.as_slice-3.ensures ∙ effects)) ∙ c.in-None.is in
    let changed = c.in_ok-changed.ensures ∙ ap (raised s.versions) c.as_slice.ensures in
    let next_id = c.next_id.ensures ∙ ap (λ (h : StacksState). h.next_id) c.stacks.ensures.state in
    let written = subst (All IsWrittenEffect) (c.as_slice-2.ensures ∙ effects) c.tell_effects.ensures in
    let may = may_record limits s edit done c.limits.ensures.kept c.requires written some none (raised s.versions done.bumps) in
    subst (Plans limits s edit done) (sym (c.recorded.ensures ∙ (λ i. recorded_as (next_id i) done (effects i) (changed i))))
    (plans_recorded limits s edit done some none c.requires may.comes.changes)

pub returns-in-None-clause-may : goal.returns-in-None-clause-may
returns-in-None-clause-may c =
    let limits = c.args.history.now.limits in
    let s = c.args.history.now.state in
    let edit = c.args.edit.now in
    let done = c.args.done in
    let effects = c.in_ok-effects.ensures in
    let some = some_effects c.in_ok-effects.effects (edit_effects s edit done) effects (sym c.is_empty.ensures ∙ c.if-is_empty.false) in
    let none = sym (c.in_ok-hit.ensures ∙ ap (λ es. edit_hit limits (state_after s es)) (c.as_slice-3.ensures ∙ effects)) ∙ c.in-None.is in
    let changed = c.in_ok-changed.ensures ∙ ap (raised s.versions) c.as_slice.ensures in
    let next_id = c.next_id.ensures ∙ ap (λ (h : StacksState). h.next_id) c.stacks.ensures.state in
    let written = subst (All IsWrittenEffect) (c.as_slice-2.ensures ∙ effects) c.tell_effects.ensures in
    let may = may_record limits s edit done c.limits.ensures.kept c.requires written some none (raised s.versions done.bumps) in
    λ _. subst (λ (planned : Planned). MayRecord limits s planned.plan) (sym (c.recorded.ensures ∙ (λ i. recorded_as (next_id i) done (effects i) (changed i)))) may
