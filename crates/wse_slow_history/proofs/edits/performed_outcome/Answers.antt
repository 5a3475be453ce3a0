use Rattle.std.proofs.Common.{◌≡◌, ℕ, None, map, nat_eq, sym, ap, ◌∙◌}
use Rattle.std.proofs.lemmas.Result.{IfOk-weaker}
use Rattle.wse_element.specs.State.{State}
use Rattle.wse_element.specs.Effects.{state_after}
use Rattle.wse_history.specs.declared.answer.Answer.TheVariants as answers
use Rattle.wse_history.specs.Edits.{edit_hit}
use Rattle.wse_history.specs.Outcome.{records, numbered}
use Rattle.wse_history.specs.Plans.{element_of}
use Rattle.wse_slow_history.specs.Slow.{state_of}
use Rattle.wse_slow_history.proofs.EditOutcomeLemmas.{edit_refused, edit_records}
use Rattle.wse_slow_history.proofs.edits.performed_outcome.Goals as goal

pub returns-in-Some : goal.returns-in-Some
returns-in-Some c =
    let limits = c.args.limits.now in
    let s = state_of c.args.state.now in
    let effects = c.in_ok-effects.effects.items in
    let next : state_of c.in_ok-next.next ≡ state_after s effects = c.in_ok-next.ensures ∙ ap (state_after s) c.as_slice.ensures.value in
    c.unrecorded-in-Some.ensures
    ∙ edit_refused limits s c.args.edit.now c.args.done effects c.in_ok-effects.ensures (sym (c.is_empty.ensures ∙ ap (λ (n : ℕ). nat_eq n 0) c.in_ok-effects.effects.ok.0) ∙ c.if-is_empty.false) c.in-Some.hit
    (sym (c.edit_hit.ensures ∙ ap (edit_hit limits) next) ∙ c.in-Some.is)

pub returns-in-None : goal.returns-in-None
returns-in-None c =
    let limits = c.args.limits.now in
    let s = state_of c.args.state.now in
    let done = c.args.done in
    let effects = c.in_ok-effects.effects.items in
    let next : state_of c.in_ok-next.next ≡ state_after s effects = c.in_ok-next.ensures ∙ ap (state_after s) c.as_slice.ensures.value in
    IfOk-weaker c.recorded.result _ _
    (λ o is. is
    ∙ ap (λ (x : State). records effects (answers.Edit (numbered x (map (λ b. b.path) done.bumps)) (element_of s.next_id done.changes) done.failed None done.skipped)) next
    ∙ edit_records limits s c.args.edit.now done effects c.in_ok-effects.ensures (sym (c.is_empty.ensures ∙ ap (λ (n : ℕ). nat_eq n 0) c.in_ok-effects.effects.ok.0) ∙ c.if-is_empty.false)
    (sym (c.edit_hit.ensures ∙ ap (edit_hit limits) next) ∙ c.in-None.is))
    c.recorded.ensures
