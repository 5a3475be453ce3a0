use Rattle.std.proofs.Common.{◌≡◌, subst}
use Rattle.wse_path.specs.declared.limits.Limits.{Limits}
use Rattle.wse_element.specs.State.{State}
use Rattle.wse_history.specs.History.{IsHistory}
use Rattle.wse_promise.proofs.BehindLemmas.{undoes_over_lines}
use Rattle.wse_run.specs.Run.{setting_of}
use Rattle.wse_run.proofs.run.kept.Goals as goal

pub returns : goal.returns
returns g c = λ lines.
    let engine = c.args.engine.now in
    undoes_over_lines (setting_of c.args.root.now engine.limits) engine.state lines
    (subst (λ (l : Limits). IsHistory engine.state l) c.history.ensures.limits
    (subst (λ (s : State). IsHistory s c.history.result.now.limits) c.history.ensures.state c.limits.ensures.kept))
