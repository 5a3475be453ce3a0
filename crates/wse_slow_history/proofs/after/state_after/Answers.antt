use Rattle.std.proofs.Common.{◌+◌, ap, ◌∙◌}
use Rattle.std.proofs.lemmas.Result.{IfOk-weaker}
use Rattle.wse_element.specs.State.{State}
use Rattle.wse_slow_history.specs.Slow.{state_of}
use Rattle.wse_slow_history.specs.After.{after_effects}
use Rattle.wse_slow_history.proofs.AfterLemmas.{state_is}
use Rattle.wse_slow_history.proofs.after.state_after.Goals as goal

pub returns : goal.returns
returns c =
    let s = state_of c.args.state.now in
    let same = c.in_ok-begun.ensures in
    let serial = c.in_ok-begun-2.ensures ∙ ap (λ (x : State). x.serial + 1) same in
    IfOk-weaker c.after_effects.result _ _
    (λ last is. is ∙ ap (λ (x : State). after_effects x c.args.effects.now) (λ i. record (same i) { serial = serial i }) ∙ state_is s c.args.effects.now)
    c.after_effects.ensures
