use Rattle.std.proofs.Common.{◌≡◌, ◌||◌, true, false, is_some, sym, ap, ◌∙◌}
use Rattle.wse_element.specs.Record.{Record}
use Rattle.wse_element.specs.Stacks.{closest_past, closest_future}
use Rattle.wse_history.proofs.ForgetLemmas.{live_is, some_mapped}
use Rattle.wse_history.proofs.forgets.is_live_at.Goals as goal

pub returns-then-is_some : goal.returns-then-is_some
returns-then-is_some c =
    let records = c.args.stacks.now.state.records in
    let p = c.args.path.now in
    let past : is_some (closest_past records p) ≡ true = sym (some_mapped (λ (r : Record). r.id) (closest_past records p)) ∙ ap is_some (sym c.closest_past.ensures) ∙ sym c.is_some.ensures ∙ c.if-is_some.true in
    c.if-is_some.true ∙ ap (λ b. b || is_some (closest_future records p)) (sym past) ∙ live_is p records

pub returns-else-is_some : goal.returns-else-is_some
returns-else-is_some c =
    let records = c.args.stacks.now.state.records in
    let p = c.args.path.now in
    let past : is_some (closest_past records p) ≡ false = sym (some_mapped (λ (r : Record). r.id) (closest_past records p)) ∙ ap is_some (sym c.closest_past.ensures) ∙ sym c.is_some.ensures ∙ c.if-is_some.false in
    c.is_some-else-is_some.ensures ∙ ap is_some c.closest_future.ensures ∙ some_mapped (λ (r : Record). r.id) (closest_future records p)
    ∙ ap (λ b. b || is_some (closest_future records p)) (sym past) ∙ live_is p records
