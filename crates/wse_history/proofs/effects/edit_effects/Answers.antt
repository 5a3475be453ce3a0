use Rattle.std.proofs.Common.{◌≢◌, ◌++◌, ◌∙◌, ap, sym, subst}
use Rattle.std.specs.List.{All}
use Rattle.std.specs.FinMap.{is_sorted}
use Rattle.wse_path.specs.Order.{path_cmp}
use Rattle.wse_path.specs.Changes.{contents_of}
use Rattle.wse_path.specs.declared.change.Change.{Change}
use Rattle.wse_path.proofs.LeadLemmas.{lead_rises}
use Rattle.wse_element.specs.State.{StacksState}
use Rattle.wse_history.specs.Edits.{push_of}
use Rattle.wse_history.specs.Plans.{drops_at}
use Rattle.wse_history.proofs.BumpLemmas.{bumps}
use Rattle.wse_history.proofs.PlanLemmas.{differ, effects_are}
use Rattle.wse_history.proofs.effects.edit_effects.Goals as goal

pub push_made-requires-clause-differ : goal.push_made-requires-clause-differ
push_made-requires-clause-differ c =
    subst (All (λ (x : Change). x.before ≢ x.after)) (sym c.as_slice-changes.ensures) (differ c.args.history.now.state.files c.args.done.now.changes c.requires.lead)

pub push_made-requires-clause-rise : goal.push_made-requires-clause-rise
push_made-requires-clause-rise c =
    ap (λ cs. is_sorted path_cmp (contents_of cs)) c.as_slice-changes.ensures ∙ lead_rises c.args.history.now.state.files c.args.done.now.changes c.requires.lead

pub returns : goal.returns
returns c =
    let s = c.args.history.now.state in
    let dropped = c.push_drops.new.effects.items in
    let pushed = c.push_made.new.effects.items in
    let changes = c.as_slice-changes.ensures in
    let records = ap (λ (h : StacksState). h.records) c.stacks.ensures.state in
    c.new.ensures ∙ effects_are s c.args.edit.now c.args.done.now dropped pushed c.push_bumps.new.effects.items
    (c.in_ok-push_drops.ensures ∙ (λ i. c.new-effects.ensures.items i ++ drops_at (records i) (changes i)))
    (c.in_ok-push_made.ensures ∙ ap (λ cs. dropped ++ push_of s c.args.edit.now cs) changes)
    (c.in_ok-push_bumps.ensures ∙ ap (λ bs. pushed ++ bumps bs) c.as_slice.ensures)
