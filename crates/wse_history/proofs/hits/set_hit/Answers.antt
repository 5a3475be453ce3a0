use Rattle.std.proofs.Common.{ap, sym, subst, ◌∙◌}
use Rattle.std.specs.Option.{option_or}
use Rattle.wse_path.specs.Tree.{Entries}
use Rattle.wse_path.specs.Versions.{Numbers, known}
use Rattle.wse_path.specs.declared.limits.Limits.{Limits}
use Rattle.wse_path.specs.declared.limits.Which.TheVariants.{Known}
use Rattle.wse_element.specs.Effects.{state_after}
use Rattle.wse_apply.specs.Draft.{LeadTo}
use Rattle.wse_apply.specs.Limit.{hit_above, limit_hit}
use Rattle.wse_history.specs.Done.{with_versions}
use Rattle.wse_history.proofs.HitLemmas.{hit_of_set}
use Rattle.wse_history.proofs.hits.set_hit.Goals as goal

pub returns : goal.returns
returns c = λ effects sets versions leads.
    let s = c.args.history.now.state in
    let limits = c.args.history.now.limits in
    let files = (state_after s effects).files in
    let tree = c.limit_hit_after-tree.ensures files (subst (λ (fs : Entries). LeadTo fs c.args.changes.now files) (sym c.tree.ensures) leads) ∙ ap (λ (l : Limits). limit_hit l files) c.limits-limits.ensures.limits in
    let knows = c.hit_above.ensures ∙ ap (λ (l : Limits). hit_above Known l.known c.known_with-known.result) c.limits-limits.ensures.limits
    ∙ ap (hit_above Known limits.known) (c.known_with-known.ensures ∙ ap (λ (vs : Numbers). known (with_versions c.args.changed.now vs)) c.versions.ensures) in
    c.or-2.ensures
    ∙ ap (option_or c.serial_hit.result) (c.or.ensures ∙ ap (λ o. option_or o c.limit_hit_after-tree.result) knows)
    ∙ ap (λ o. option_or o (option_or (hit_above Known limits.known (known (with_versions c.args.changed.now s.versions))) c.limit_hit_after-tree.result)) c.serial_hit.ensures
    ∙ hit_of_set limits s effects c.args.changed.now c.limit_hit_after-tree.result sets versions tree
