use Rattle.std.proofs.Common.{List, [], sym, ap, subst, ◌∙◌}
use Rattle.std.specs.List.{All, list_any}
use Rattle.wse_element.specs.declared.effect.Effect.{Effect}
use Rattle.wse_element.specs.Live.{is_live_at}
use Rattle.wse_element.specs.State.{StacksState}
use Rattle.wse_history.specs.declared.answer.Answer.TheVariants.{Forgotten}
use Rattle.wse_history.specs.declared.planned.Planned.{Planned}
use Rattle.wse_history.specs.Forgetting.{forget_outcome}
use Rattle.wse_history.specs.Outcome.{Outcome}
use Rattle.wse_history.specs.Plain.{recorded_with}
use Rattle.wse_history.specs.Planning.{PlansAsOutcome, MayRecord}
use Rattle.wse_history.specs.Written.{IsWrittenEffect}
use Rattle.wse_history.proofs.ForgetLemmas.{effects_at, forget_nothing, forget_refused, forget_recorded, forget_plans, forget_may}
use Rattle.wse_history.proofs.forgets.plan_forget.Goals as goal

pub returns-then-not-is_live_at-clause-planned : goal.returns-then-not-is_live_at-clause-planned
returns-then-not-is_live_at-clause-planned c =
    let s = c.args.history.now.state in
    let p = c.args.path.now in
    let live = sym (c.is_live_at.ensures ∙ ap (λ (h : StacksState). list_any (is_live_at p) h.records) c.stacks.ensures.state) in
    subst (λ (o : Outcome). PlansAsOutcome s o c.stays.result) (forget_nothing c.args.history.now.limits s p (live ∙ c.if-not-is_live_at.true)) (c.stays.ensures.planned s)

pub returns-then-not-is_live_at-clause-may : goal.returns-then-not-is_live_at-clause-may
returns-then-not-is_live_at-clause-may c = c.stays.ensures.may c.args.history.now.limits c.args.history.now.state

pub returns-in-Some-clause-planned : goal.returns-in-Some-clause-planned
returns-in-Some-clause-planned c =
    let s = c.args.history.now.state in
    let p = c.args.path.now in
    let live = sym (c.is_live_at.ensures ∙ ap (λ (h : StacksState). list_any (is_live_at p) h.records) c.stacks.ensures.state) in
    subst (λ (o : Outcome). PlansAsOutcome s o c.stays-in-Some.result)
    (forget_refused c.args.history.now.limits s p c.in-Some.hit (live ∙ c.if-not-is_live_at.false) (sym c.serial_hit.ensures ∙ c.in-Some.is))
    (c.stays-in-Some.ensures.planned s)

pub returns-in-Some-clause-may : goal.returns-in-Some-clause-may
returns-in-Some-clause-may c = c.stays-in-Some.ensures.may c.args.history.now.limits c.args.history.now.state

pub returns-clause-planned : goal.returns-clause-planned
returns-clause-planned c =
    let s = c.args.history.now.state in
    let limits = c.args.history.now.limits in
    let p = c.args.path.now in
    let live = sym (c.is_live_at.ensures ∙ ap (λ (h : StacksState). list_any (is_live_at p) h.records) c.stacks.ensures.state) ∙ c.if-not-is_live_at.false in
    let changes = c.new-2.ensures ∙ c.new.ensures.items in
    subst (λ (r : Planned). PlansAsOutcome s (forget_outcome limits s p) r)
    (sym (c.records.ensures ∙ (λ i. recorded_with (c.in_ok-effects.ensures i) (changes i) Forgotten)))
    (subst (λ (o : Outcome). PlansAsOutcome s o (recorded_with (effects_at p) [] Forgotten)) (forget_recorded limits s p live (sym c.serial_hit.ensures ∙ c.in_default.is)) (forget_plans s p))

pub returns-clause-may : goal.returns-clause-may
returns-clause-may c = λ some.
    let s = c.args.history.now.state in
    let limits = c.args.history.now.limits in
    let p = c.args.path.now in
    let live = sym (c.is_live_at.ensures ∙ ap (λ (h : StacksState). list_any (is_live_at p) h.records) c.stacks.ensures.state) ∙ c.if-not-is_live_at.false in
    let changes = c.new-2.ensures ∙ c.new.ensures.items in
    let written = subst (λ (es : List Effect). All IsWrittenEffect es) (c.as_slice.ensures.value ∙ c.in_ok-effects.ensures) c.tell_effects.ensures in
    subst (λ (r : Planned). MayRecord limits s r.plan)
    (sym (c.records.ensures ∙ (λ i. recorded_with (c.in_ok-effects.ensures i) (changes i) Forgotten)))
    (forget_may limits s p c.limits.ensures.kept live (sym c.serial_hit.ensures ∙ c.in_default.is) written)
