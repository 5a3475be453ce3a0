use Rattle.std.proofs.Common.{List, sym, ap, subst, ◌∙◌}
use Rattle.std.specs.Prelude.{flat_map}
use Rattle.std.specs.List.{All}
use Rattle.std.specs.FinMap.{is_sorted}
use Rattle.wse_path.specs.Order.{path_cmp}
use Rattle.wse_path.specs.Tree.{Entries}
use Rattle.wse_path.specs.Changes.{change_to}
use Rattle.wse_path.specs.declared.change.Change.{Change}
use Rattle.wse_path.specs.declared.change.Numbered.{Numbered}
use Rattle.wse_element.specs.declared.effect.Effect.{Effect}
use Rattle.wse_element.specs.Effects.{state_after}
use Rattle.wse_apply.specs.Draft.{LeadTo}
use Rattle.wse_history.specs.declared.answer.Answer.TheVariants.{Move}
use Rattle.wse_history.specs.declared.answer.MoveEnd.TheVariants.{Done}
use Rattle.wse_history.specs.declared.planned.Planned.{Planned}
use Rattle.wse_history.specs.Done.{AreRises, pairs_of, ones, raised, with_versions}
use Rattle.wse_history.specs.Moving.{contents_to, paths_of, moved_effects, moved_outcome}
use Rattle.wse_history.specs.Outcome.{Outcome}
use Rattle.wse_history.specs.Plain.{recorded_with}
use Rattle.wse_history.specs.Planning.{PlansAsOutcome, MayRecord}
use Rattle.wse_history.specs.Written.{IsWrittenEffect}
use Rattle.wse_history.proofs.RisenLemmas.{ones_rise}
use Rattle.wse_history.proofs.RaisedLemmas.{raised_sorted}
use Rattle.wse_history.proofs.MovedLemmas.{ones_sorted, moved_sets, moved_versions, moved_leads, moved_refused, moved_plans, moved_may}
use Rattle.wse_history.proofs.goes.plan_moved.Goals as goal

pub changed-requires : goal.changed-requires
changed-requires c = subst AreRises (sym (c.as_slice.ensures ∙ c.in_ok-rises.ensures)) (ones_rise (paths_of c.args.parts.now))

pub set_hit-requires : goal.set_hit-requires
set_hit-requires c =
    let s = c.args.history.now.state in
    let parts = c.args.parts.now in
    ap (λ (cs : List Numbered). is_sorted path_cmp (pairs_of cs)) (c.as_slice-2.ensures ∙ c.in_ok-changed.ensures ∙ ap (raised s.versions) (c.as_slice.ensures ∙ c.in_ok-rises.ensures))
    ∙ raised_sorted s.versions (ones (paths_of parts)) (ones_sorted parts c.requires.may.rise)

pub returns-in-Some-clause-planned : goal.returns-in-Some-clause-planned
returns-in-Some-clause-planned c =
    let s = c.args.history.now.state in
    let limits = c.args.history.now.limits in
    let asked = c.args.asked in
    let id = c.args.id in
    let parts = c.args.parts.now in
    let effects = moved_effects s asked id parts in
    let changed = c.as_slice-2.ensures ∙ c.in_ok-changed.ensures ∙ ap (raised s.versions) (c.as_slice.ensures ∙ c.in_ok-rises.ensures) in
    let changes = c.as_slice-3.ensures ∙ c.in_ok-changes.ensures ∙ ap (λ (fs : Entries). flat_map (change_to fs) (contents_to asked.direction parts)) c.tree.ensures in
    let hit = c.set_hit.ensures effects (moved_sets limits s asked id parts)
    (moved_versions limits s asked id parts c.requires.may c.requires.free ∙ ap (λ (cs : List Numbered). with_versions cs s.versions) (sym changed))
    (subst (λ (cs : List Change). LeadTo s.files cs (state_after s effects).files) (sym changes) (moved_leads limits s asked id parts c.requires.may c.requires.free c.limits.ensures.kept)) in
    subst (λ (o : Outcome). PlansAsOutcome s o c.stays.result)
    (moved_refused limits s asked id parts c.requires.may c.requires.free c.in-Some.hit (sym hit ∙ c.in-Some.is))
    (c.stays.ensures.planned s)

pub returns-in-Some-clause-may : goal.returns-in-Some-clause-may
returns-in-Some-clause-may c = c.stays.ensures.may c.args.history.now.limits c.args.history.now.state

pub returns-clause-planned : goal.returns-clause-planned
returns-clause-planned c =
    let s = c.args.history.now.state in
    let limits = c.args.history.now.limits in
    let asked = c.args.asked in
    let id = c.args.id in
    let parts = c.args.parts.now in
    let effects = moved_effects s asked id parts in
    let raised_are = c.in_ok-changed.ensures ∙ ap (raised s.versions) (c.as_slice.ensures ∙ c.in_ok-rises.ensures) in
    let changed = c.as_slice-2.ensures ∙ raised_are in
    let changes_are = c.in_ok-changes.ensures ∙ ap (λ (fs : Entries). flat_map (change_to fs) (contents_to asked.direction parts)) c.tree.ensures in
    let changes = c.as_slice-3.ensures ∙ changes_are in
    let hit = c.set_hit.ensures effects (moved_sets limits s asked id parts)
    (moved_versions limits s asked id parts c.requires.may c.requires.free ∙ ap (λ (cs : List Numbered). with_versions cs s.versions) (sym changed))
    (subst (λ (cs : List Change). LeadTo s.files cs (state_after s effects).files) (sym changes) (moved_leads limits s asked id parts c.requires.may c.requires.free c.limits.ensures.kept)) in
    subst (λ (r : Planned). PlansAsOutcome s (moved_outcome limits s asked id parts) r)
    (sym (c.records.ensures ∙ (λ i. recorded_with (c.in_ok-effects.ensures i) (changes_are i) (Move asked.split (Done id (raised_are i))))))
    (moved_plans limits s asked id parts c.requires.may c.requires.free c.limits.ensures.kept (sym hit ∙ c.in_default.is))

pub returns-clause-may : goal.returns-clause-may
returns-clause-may c = λ some.
    let s = c.args.history.now.state in
    let limits = c.args.history.now.limits in
    let asked = c.args.asked in
    let id = c.args.id in
    let parts = c.args.parts.now in
    let effects = moved_effects s asked id parts in
    let raised_are = c.in_ok-changed.ensures ∙ ap (raised s.versions) (c.as_slice.ensures ∙ c.in_ok-rises.ensures) in
    let changed = c.as_slice-2.ensures ∙ raised_are in
    let changes_are = c.in_ok-changes.ensures ∙ ap (λ (fs : Entries). flat_map (change_to fs) (contents_to asked.direction parts)) c.tree.ensures in
    let changes = c.as_slice-3.ensures ∙ changes_are in
    let hit = c.set_hit.ensures effects (moved_sets limits s asked id parts)
    (moved_versions limits s asked id parts c.requires.may c.requires.free ∙ ap (λ (cs : List Numbered). with_versions cs s.versions) (sym changed))
    (subst (λ (cs : List Change). LeadTo s.files cs (state_after s effects).files) (sym changes) (moved_leads limits s asked id parts c.requires.may c.requires.free c.limits.ensures.kept)) in
    let written = subst (λ (es : List Effect). All IsWrittenEffect es) (c.as_slice-4.ensures.value ∙ c.in_ok-effects.ensures) c.tell_effects.ensures in
    subst (λ (r : Planned). MayRecord limits s r.plan)
    (sym (c.records.ensures ∙ (λ i. recorded_with (c.in_ok-effects.ensures i) (changes_are i) (Move asked.split (Done id (raised_are i))))))
    (moved_may limits s asked id parts c.requires.may c.requires.free c.limits.ensures.kept (sym hit ∙ c.in_default.is) written)
