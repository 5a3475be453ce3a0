use Rattle.std.proofs.Common.{◌≢◌, ◌++◌, ◌∙◌, map, ap, sym, subst}
use Rattle.std.specs.List.{All}
use Rattle.std.specs.FinMap.{is_sorted}
use Rattle.wse_path.specs.Order.{path_cmp}
use Rattle.wse_path.specs.Changes.{contents_of}
use Rattle.wse_path.specs.declared.change.Change.{Change}
use Rattle.wse_path.specs.declared.change.Numbered.{Numbered}
use Rattle.wse_path.proofs.LeadLemmas.{lead_rises}
use Rattle.wse_element.specs.declared.effect.Effect.TheVariants.{Bump}
use Rattle.wse_history.specs.Edits.{push_of}
use Rattle.wse_history.proofs.PlanLemmas.{differ}
use Rattle.wse_slow_history.specs.Slow.{state_of}
use Rattle.wse_slow_history.proofs.EffectLemmas.{drops_of, effects_follow}
use Rattle.wse_slow_history.proofs.effects.edit_effects.Goals as goal

pub push_made-requires-clause-differ : goal.push_made-requires-clause-differ
push_made-requires-clause-differ c =
    subst (All (λ (x : Change). x.before ≢ x.after)) (sym c.as_slice-changes.ensures) (differ (state_of c.args.state.now).files c.args.done.now.changes c.requires.lead)

pub push_made-requires-clause-rise : goal.push_made-requires-clause-rise
push_made-requires-clause-rise c =
    ap (λ cs. is_sorted path_cmp (contents_of cs)) c.as_slice-changes.ensures ∙ lead_rises (state_of c.args.state.now).files c.args.done.now.changes c.requires.lead

pub returns : goal.returns
returns c =
    let s = state_of c.args.state.now in
    let dropped = c.in_ok-effects.effects.items in
    let pushed = c.push_made.new.effects.items in
    let changes = c.as_slice-changes.ensures in
    effects_follow s c.args.edit.now c.args.done.now dropped pushed c.push_bumps.new.effects.items
    (c.in_ok-effects.ensures ∙ (λ i. drops_of (c.as_slice.ensures.value i) (changes i)))
    (c.in_ok-push_made.ensures ∙ ap (λ cs. dropped ++ push_of s c.args.edit.now cs) changes)
    (c.in_ok-push_bumps.ensures ∙ ap (λ bs. pushed ++ map (λ (b : Numbered). Bump b.path b.number) bs) c.as_slice-2.ensures)
