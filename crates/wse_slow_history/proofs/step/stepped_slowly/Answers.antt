use Rattle.std.proofs.Common.{sym, ap, subst, ◌∙◌}
use Rattle.std.proofs.lemmas.Result.{IfOk-weaker}
use Rattle.wse_element.specs.State.{State}
use Rattle.wse_history.specs.History.{IsHistory}
use Rattle.wse_history.specs.Step.{left}
use Rattle.wse_slow_history.specs.Slow.{state_of}
use Rattle.wse_slow_history.proofs.OutcomeLemmas.{step_keeps}
use Rattle.wse_slow_history.proofs.step.stepped_slowly.Goals as goal

pub returns-clause-kept : goal.returns-clause-kept
returns-clause-kept c =
    let limits = c.args.limits.now in
    let s = state_of c.args.state.now in
    IfOk-weaker c.left.result _ _
    (λ done is. subst (λ (x : State). IsHistory x limits) (sym (is ∙ ap (left s) c.in_ok-outcome.ensures)) (step_keeps limits s c.args.command.now c.outcomes_may_apply.ensures c.requires))
    c.left.ensures.state
