use Rattle.std.proofs.Common.{List, None, sym, ap, subst, ◌∙◌}
use Rattle.wse_path.specs.Path.{Path}
use Rattle.wse_path.specs.Tree.{Entries}
use Rattle.wse_history.specs.declared.answer.Answer.TheVariants.{Move}
use Rattle.wse_history.specs.declared.answer.MoveEnd.TheVariants.{InTheWay}
use Rattle.wse_history.specs.Moving.{contents_to}
use Rattle.wse_history.specs.Outcome.{Outcome, stays, is_some_of}
use Rattle.wse_history.specs.Planning.{PlansAsOutcome}
use Rattle.wse_element.specs.Way.{in_the_way}
use Rattle.wse_history.proofs.MovedLemmas.{moved_blocked}
use Rattle.wse_history.proofs.PlanLemmas.{none_of, some_of, some_is}
use Rattle.wse_history.proofs.goes.plan_go.Goals as goal

pub returns-then-not-is_empty-clause-planned : goal.returns-then-not-is_empty-clause-planned
returns-then-not-is_empty-clause-planned c =
    let s = c.args.history.now.state in
    let limits = c.args.history.now.limits in
    let asked = c.args.asked in
    let parts = c.args.parts.now in
    let are = c.in_ok-files.ensures ∙ ap (λ (fs : Entries). in_the_way fs (contents_to asked.direction parts)) c.tree.ensures in
    let some = ap is_some_of (sym are) ∙ some_is c.in_ok-files.files (some_of c.in_ok-files.files (sym c.is_empty.ensures ∙ c.if-not-is_empty.true)) in
    subst (λ (o : Outcome). PlansAsOutcome s o c.stays.result)
    (ap (λ (files : List Path). stays (Move None (InTheWay asked.id files))) are ∙ moved_blocked limits s asked c.args.id parts some)
    (c.stays.ensures.planned s)

pub returns-then-not-is_empty-clause-may : goal.returns-then-not-is_empty-clause-may
returns-then-not-is_empty-clause-may c = c.stays.ensures.may c.args.history.now.limits c.args.history.now.state

pub plan_moved-requires-clause-free : goal.plan_moved-requires-clause-free
plan_moved-requires-clause-free c =
    sym (c.in_ok-files.ensures ∙ ap (λ (fs : Entries). in_the_way fs (contents_to c.args.asked.direction c.args.parts.now)) c.tree.ensures)
    ∙ none_of c.in_ok-files.files (sym c.is_empty.ensures ∙ c.if-not-is_empty.false)
