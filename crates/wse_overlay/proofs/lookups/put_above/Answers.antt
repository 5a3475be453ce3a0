use Rattle.std.proofs.Common.{Some, None, cond, sym, ap, ◌∙◌}
use Rattle.wse_overlay.proofs.RangeLemmas.{above_in, above_out}
use Rattle.wse_overlay.proofs.lookups.put_above.Goals as goal

pub returns-then-is_under : goal.returns-then-is_under
returns-then-is_under c =
    let k = c.in-Some.last.now in
    sym (above_in c.args.put.now c.args.path.now c.range.result k c.in-Some.field-0-1.now c.next_back.new.self c.requires (c.range.ensures.in_range tt) c.in-Some.ensures.steps
    ∙ ap (λ b. cond b (Some k) None) (sym c.is_under.ensures ∙ c.if-is_under.true))

pub returns-else-is_under : goal.returns-else-is_under
returns-else-is_under c =
    let k = c.in-Some.last.now in
    sym (above_in c.args.put.now c.args.path.now c.range.result k c.in-Some.field-0-1.now c.next_back.new.self c.requires (c.range.ensures.in_range tt) c.in-Some.ensures.steps
    ∙ ap (λ b. cond b (Some k) None) (sym c.is_under.ensures ∙ c.if-is_under.false))

pub returns-in-None : goal.returns-in-None
returns-in-None c = sym (above_out c.args.put.now c.args.path.now c.range.result (c.range.ensures.in_range tt) c.in-None.ensures.steps.0)
