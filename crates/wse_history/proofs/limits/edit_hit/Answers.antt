use Rattle.std.proofs.Common.{◌+◌, ◌∙◌, ap}
use Rattle.wse_path.specs.PathMap.{capped}
use Rattle.wse_path.specs.Versions.{Numbers, known}
use Rattle.wse_path.specs.declared.limits.Limits.{Limits}
use Rattle.wse_element.specs.State.{StacksState}
use Rattle.wse_element.specs.Effects.{left_by, state_after}
use Rattle.wse_element.specs.Weight.{weight}
use Rattle.wse_history.specs.Edits.{edit_hit}
use Rattle.wse_history.specs.Done.{with_versions}
use Rattle.wse_history.proofs.PlanLemmas.{hit_is}
use Rattle.wse_history.proofs.limits.edit_hit.Goals as goal

pub returns : goal.returns
returns c =
    let s = c.args.history.now.state in
    c.first_hit.ensures
    ∙ hit_is c.limits-limits.result.now s c.args.effects.now c.args.changed.now (c.serial-serial.result + 1) c.known_with-known.result c.in_ok-weight.weight
    (ap (λ n. n + 1) (c.serial-serial.ensures ∙ ap (λ (h : StacksState). h.serial) c.stacks.ensures.state))
    c.requires.versions
    (c.known_with-known.ensures ∙ ap (λ (vs : Numbers). known (with_versions c.args.changed.now vs)) c.versions.ensures)
    (c.in_ok-weight.ensures ∙ ap (λ (h : StacksState). capped (weight (left_by c.args.effects.now h).records)) c.stacks-2.ensures.state)
    ∙ ap (λ (l : Limits). edit_hit l (state_after s c.args.effects.now)) c.limits-limits.ensures.limits
