use Rattle.std.proofs.Common.{List, [], ◌∷◌, sym, ap, subst, ◌∙◌}
use Rattle.std.specs.List.{All}
use Rattle.std.specs.FinMap.{is_sorted}
use Rattle.wse_path.specs.Order.{path_cmp}
use Rattle.wse_path.specs.Tree.{Entries}
use Rattle.wse_path.specs.Changes.{change_to}
use Rattle.wse_path.specs.declared.change.Change.{Change}
use Rattle.wse_path.specs.declared.change.Numbered.{Numbered}
use Rattle.wse_element.specs.declared.effect.Effect.{Effect}
use Rattle.wse_element.specs.State.{StacksState}
use Rattle.wse_element.specs.Effects.{state_after}
use Rattle.wse_apply.specs.Draft.{LeadTo}
use Rattle.wse_history.specs.declared.answer.Answer.TheVariants.{Recorded}
use Rattle.wse_history.specs.declared.planned.Planned.{Planned}
use Rattle.wse_history.specs.Done.{AreRises, pairs_of, raised, with_versions}
use Rattle.wse_history.specs.Outcome.{Outcome}
use Rattle.wse_history.specs.Outsides.{outside_effects, outside_outcome}
use Rattle.wse_history.specs.Plain.{recorded_with}
use Rattle.wse_history.specs.Planning.{PlansAsOutcome, MayRecord}
use Rattle.wse_history.specs.Written.{IsWrittenEffect}
use Rattle.wse_history.proofs.RisenLemmas.{ones_rise}
use Rattle.wse_history.proofs.OutsideLemmas.{outside_sets, outside_versions, outside_leads, outside_refused, outside_plans, outside_may}
use Rattle.wse_history.proofs.outsides.plan_set.Goals as goal

pub changed-requires : goal.changed-requires
changed-requires c = subst AreRises (sym (c.as_slice.ensures ∙ c.in_ok-rises.ensures)) (ones_rise (c.args.path.now ∷ []))

pub set_hit-requires : goal.set_hit-requires
set_hit-requires c =
    ap (λ (cs : List Numbered). is_sorted path_cmp (pairs_of cs)) (c.as_slice-2.ensures ∙ c.in_ok-changed.ensures ∙ ap (raised c.args.history.now.state.versions) (c.as_slice.ensures ∙ c.in_ok-rises.ensures))

pub returns-in-Some-clause-planned : goal.returns-in-Some-clause-planned
returns-in-Some-clause-planned c =
    let s = c.args.history.now.state in
    let limits = c.args.history.now.limits in
    let p = c.args.path.now in
    let bytes = c.args.bytes.now in
    let effects = outside_effects s.records p bytes in
    let changed = c.as_slice-2.ensures ∙ c.in_ok-changed.ensures ∙ ap (raised s.versions) (c.as_slice.ensures ∙ c.in_ok-rises.ensures) in
    let changes = c.as_slice-3.ensures ∙ c.in_ok-changes.ensures ∙ ap (λ (fs : Entries). change_to fs (p, bytes)) c.tree.ensures in
    let hit = c.set_hit.ensures effects (outside_sets limits s p bytes c.requires.differs c.requires.free)
    (outside_versions limits s p bytes c.requires.differs c.requires.free ∙ ap (λ (cs : List Numbered). with_versions cs s.versions) (sym changed))
    (subst (λ (cs : List Change). LeadTo s.files cs (state_after s effects).files) (sym changes) (outside_leads limits s p bytes c.requires.differs c.requires.free c.limits.ensures.kept)) in
    subst (λ (o : Outcome). PlansAsOutcome s o c.stays.result)
    (outside_refused limits s p bytes c.requires.differs c.requires.free c.in-Some.hit (sym hit ∙ c.in-Some.is))
    (c.stays.ensures.planned s)

pub returns-in-Some-clause-may : goal.returns-in-Some-clause-may
returns-in-Some-clause-may c = c.stays.ensures.may c.args.history.now.limits c.args.history.now.state

pub returns-clause-planned : goal.returns-clause-planned
returns-clause-planned c =
    let s = c.args.history.now.state in
    let limits = c.args.history.now.limits in
    let p = c.args.path.now in
    let bytes = c.args.bytes.now in
    let effects = outside_effects s.records p bytes in
    let raised_are = c.in_ok-changed.ensures ∙ ap (raised s.versions) (c.as_slice.ensures ∙ c.in_ok-rises.ensures) in
    let changed = c.as_slice-2.ensures ∙ raised_are in
    let changes_are = c.in_ok-changes.ensures ∙ ap (λ (fs : Entries). change_to fs (p, bytes)) c.tree.ensures in
    let changes = c.as_slice-3.ensures ∙ changes_are in
    let hit = c.set_hit.ensures effects (outside_sets limits s p bytes c.requires.differs c.requires.free)
    (outside_versions limits s p bytes c.requires.differs c.requires.free ∙ ap (λ (cs : List Numbered). with_versions cs s.versions) (sym changed))
    (subst (λ (cs : List Change). LeadTo s.files cs (state_after s effects).files) (sym changes) (outside_leads limits s p bytes c.requires.differs c.requires.free c.limits.ensures.kept)) in
    let made = c.in_ok-effects.ensures ∙ ap (λ (h : StacksState). outside_effects h.records p bytes) c.stacks.ensures.state in
    subst (λ (r : Planned). PlansAsOutcome s (outside_outcome limits s p bytes) r)
    (sym (c.records.ensures ∙ (λ i. recorded_with (made i) (changes_are i) (Recorded (raised_are i)))))
    (outside_plans limits s p bytes c.requires.differs c.requires.free c.limits.ensures.kept (sym hit ∙ c.in_default.is))

pub returns-clause-may : goal.returns-clause-may
returns-clause-may c = λ some.
    let s = c.args.history.now.state in
    let limits = c.args.history.now.limits in
    let p = c.args.path.now in
    let bytes = c.args.bytes.now in
    let effects = outside_effects s.records p bytes in
    let raised_are = c.in_ok-changed.ensures ∙ ap (raised s.versions) (c.as_slice.ensures ∙ c.in_ok-rises.ensures) in
    let changed = c.as_slice-2.ensures ∙ raised_are in
    let changes_are = c.in_ok-changes.ensures ∙ ap (λ (fs : Entries). change_to fs (p, bytes)) c.tree.ensures in
    let changes = c.as_slice-3.ensures ∙ changes_are in
    let hit = c.set_hit.ensures effects (outside_sets limits s p bytes c.requires.differs c.requires.free)
    (outside_versions limits s p bytes c.requires.differs c.requires.free ∙ ap (λ (cs : List Numbered). with_versions cs s.versions) (sym changed))
    (subst (λ (cs : List Change). LeadTo s.files cs (state_after s effects).files) (sym changes) (outside_leads limits s p bytes c.requires.differs c.requires.free c.limits.ensures.kept)) in
    let made = c.in_ok-effects.ensures ∙ ap (λ (h : StacksState). outside_effects h.records p bytes) c.stacks.ensures.state in
    let written = subst (λ (es : List Effect). All IsWrittenEffect es) (c.as_slice-4.ensures.value ∙ made) c.tell_effects.ensures in
    subst (λ (r : Planned). MayRecord limits s r.plan)
    (sym (c.records.ensures ∙ (λ i. recorded_with (made i) (changes_are i) (Recorded (raised_are i)))))
    (outside_may limits s p bytes c.requires.differs c.requires.free c.limits.ensures.kept (sym hit ∙ c.in_default.is) written)
