use Rattle.std.proofs.Common.{sym, ◌∙◌}
use Rattle.wse_overlay.proofs.RangeLemmas.{folder_in, folder_out}
use Rattle.wse_overlay.proofs.lookups.put_under.Goals as goal

pub returns-in-Some : goal.returns-in-Some
returns-in-Some c =
    c.is_under.ensures
    ∙ sym (folder_in c.args.put.now c.args.path.now c.range.result c.in-Some.first.now c.in-Some.field-0-1.now c.next.new.self (c.range.ensures.in_range tt) c.in-Some.ensures.steps)

pub returns-in-None : goal.returns-in-None
returns-in-None c = sym (folder_out c.args.put.now c.args.path.now c.range.result (c.range.ensures.in_range tt) c.in-None.ensures.steps.0)
