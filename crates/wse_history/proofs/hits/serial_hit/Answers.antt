use Rattle.std.proofs.Common.{◌+◌, ap, ◌∙◌}
use Rattle.wse_path.specs.declared.limits.Limits.{Limits}
use Rattle.wse_path.specs.declared.limits.Which.TheVariants.{Serial}
use Rattle.wse_element.specs.State.{StacksState}
use Rattle.wse_apply.specs.Limit.{hit_above}
use Rattle.wse_history.proofs.hits.serial_hit.Goals as goal

pub returns : goal.returns
returns c =
    c.hit_above.ensures
    ∙ ap (λ n. hit_above Serial c.limits-limits.result.now.serial (n + 1)) (c.serial-serial.ensures ∙ ap (λ (h : StacksState). h.serial) c.stacks.ensures.state)
    ∙ ap (λ (l : Limits). hit_above Serial l.serial (c.args.history.now.state.serial + 1)) c.limits-limits.ensures.limits
