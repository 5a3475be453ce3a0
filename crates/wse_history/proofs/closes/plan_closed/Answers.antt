use Rattle.std.proofs.Common.{List, sym, subst, ◌∙◌}
use Rattle.std.specs.List.{All}
use Rattle.wse_element.specs.declared.effect.Effect.{Effect}
use Rattle.wse_history.specs.declared.answer.Answer.TheVariants.{Move}
use Rattle.wse_history.specs.declared.planned.Planned.{Planned}
use Rattle.wse_history.specs.Moving.{closed_outcome}
use Rattle.wse_history.specs.Outcome.{Outcome}
use Rattle.wse_history.specs.Plain.{recorded_with}
use Rattle.wse_history.specs.Planning.{PlansAsOutcome, MayRecordIfAny}
use Rattle.wse_history.specs.Written.{IsWrittenEffect}
use Rattle.wse_history.proofs.ClosedLemmas.{closed_refused, closed_plans, closed_may}
use Rattle.wse_history.proofs.closes.plan_closed.Goals as goal

pub returns-in-Some-clause-planned : goal.returns-in-Some-clause-planned
returns-in-Some-clause-planned c =
    let s = c.args.history.now.state in
    subst (λ (o : Outcome). PlansAsOutcome s o c.stays.result)
    (closed_refused c.args.history.now.limits s c.args.asked c.args.paths.now c.args.end c.in-Some.hit (sym c.serial_hit.ensures ∙ c.in-Some.is))
    (c.stays.ensures.planned s)

pub returns-in-Some-clause-may : goal.returns-in-Some-clause-may
returns-in-Some-clause-may c = c.stays.ensures.may c.args.history.now.limits c.args.history.now.state

pub returns-clause-planned : goal.returns-clause-planned
returns-clause-planned c =
    let s = c.args.history.now.state in
    let limits = c.args.history.now.limits in
    let asked = c.args.asked in
    let changes = c.new-changes.ensures ∙ c.new.ensures.items in
    subst (λ (r : Planned). PlansAsOutcome s (closed_outcome limits s asked c.args.paths.now c.args.end) r)
    (sym (c.records.ensures ∙ (λ i. recorded_with (c.in_ok-effects.ensures i) (changes i) (Move asked.split c.args.end))))
    (closed_plans limits s asked c.args.paths.now c.args.end (sym c.serial_hit.ensures ∙ c.in_default.is))

pub returns-clause-may : goal.returns-clause-may
returns-clause-may c =
    let s = c.args.history.now.state in
    let limits = c.args.history.now.limits in
    let asked = c.args.asked in
    let changes = c.new-changes.ensures ∙ c.new.ensures.items in
    let written = subst (λ (es : List Effect). All IsWrittenEffect es) (c.as_slice.ensures.value ∙ c.in_ok-effects.ensures) c.tell_effects.ensures in
    subst (λ (r : Planned). MayRecordIfAny limits s r.plan)
    (sym (c.records.ensures ∙ (λ i. recorded_with (c.in_ok-effects.ensures i) (changes i) (Move asked.split c.args.end))))
    (closed_may limits s asked c.args.paths.now c.args.end c.limits.ensures.kept c.requires (sym c.serial_hit.ensures ∙ c.in_default.is) written)
