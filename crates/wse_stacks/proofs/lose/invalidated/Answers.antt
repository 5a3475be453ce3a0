use Rattle.std.proofs.Common.{◌≡◌, IfOk, sym, ap, subst, ◌∙◌}
use Rattle.wse_element.specs.Record.{Record}
use Rattle.wse_element.specs.Live.{is_live_at}
use Rattle.wse_stacks.proofs.ImageLemmas.{invalid_elsewhere}
use Rattle.wse_stacks.proofs.lose.invalidated.Goals as goal

pub returns-then-not-is_live_at : goal.returns-then-not-is_live_at
returns-then-not-is_live_at c =
    let away = ap (is_live_at c.args.path.now) (sym c.element.ensures.value) ∙ sym c.is_live_at.ensures ∙ c.if-not-is_live_at.true in
    subst (λ (r : Record). IfOk c.share.result (λ entry. entry ≡ r)) (sym (invalid_elsewhere c.args.path.now c.args.entry.now away)) c.share.ensures
