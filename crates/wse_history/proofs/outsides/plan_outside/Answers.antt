use Rattle.std.proofs.Common.{List, [], ◌∷◌, sym, ap, subst, ◌∙◌}
use Rattle.wse_path.specs.Path.{Path}
use Rattle.wse_path.specs.Tree.{Entries, content}
use Rattle.wse_path.specs.Changes.{is_same}
use Rattle.wse_history.specs.declared.answer.Answer.TheVariants.{OutsideInTheWay}
use Rattle.wse_history.specs.Outcome.{Outcome, stays, is_some_of}
use Rattle.wse_history.specs.Planning.{PlansAsOutcome}
use Rattle.wse_element.specs.Way.{in_the_way}
use Rattle.wse_history.proofs.OutsideLemmas.{outside_same, outside_blocked}
use Rattle.wse_history.proofs.PlanLemmas.{some_of, some_is}
use Rattle.wse_history.proofs.outsides.plan_outside.Goals as goal

pub returns-then-is_same-clause-planned : goal.returns-then-is_same-clause-planned
returns-then-is_same-clause-planned c =
    let s = c.args.history.now.state in
    let p = c.args.path.now in
    let bytes = c.args.bytes.now in
    let same = sym (c.is_same.ensures ∙ ap (λ o. is_same o bytes) c.get.ensures ∙ ap (λ (fs : Entries). is_same (content fs p) bytes) c.tree-tree.ensures) ∙ c.if-is_same.true in
    subst (λ (o : Outcome). PlansAsOutcome s o c.stays.result) (outside_same c.args.history.now.limits s p bytes same) (c.stays.ensures.planned s)

pub returns-then-is_same-clause-may : goal.returns-then-is_same-clause-may
returns-then-is_same-clause-may c = c.stays.ensures.may c.args.history.now.limits c.args.history.now.state

pub returns-then-not-is_empty-clause-planned : goal.returns-then-not-is_empty-clause-planned
returns-then-not-is_empty-clause-planned c =
    let s = c.args.history.now.state in
    let limits = c.args.history.now.limits in
    let p = c.args.path.now in
    let bytes = c.args.bytes.now in
    let differs = sym (c.is_same.ensures ∙ ap (λ o. is_same o bytes) c.get.ensures ∙ ap (λ (fs : Entries). is_same (content fs p) bytes) c.tree-tree.ensures) ∙ c.if-is_same.false in
    let are = c.in_ok-files.ensures ∙ ap (λ (fs : Entries). in_the_way fs ((p, bytes) ∷ [])) c.tree-tree.ensures in
    let some = ap is_some_of (sym are) ∙ some_is c.in_ok-files.files (some_of c.in_ok-files.files (sym c.is_empty.ensures ∙ c.if-not-is_empty.true)) in
    subst (λ (o : Outcome). PlansAsOutcome s o c.stays-then-not-is_empty.result)
    (ap (λ (files : List Path). stays (OutsideInTheWay files)) are ∙ outside_blocked limits s p bytes differs some)
    (c.stays-then-not-is_empty.ensures.planned s)

pub returns-then-not-is_empty-clause-may : goal.returns-then-not-is_empty-clause-may
returns-then-not-is_empty-clause-may c = c.stays-then-not-is_empty.ensures.may c.args.history.now.limits c.args.history.now.state
