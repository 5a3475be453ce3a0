use Rattle.std.proofs.Common.{sym, ◌∙◌}
use Rattle.wse_plain.proofs.LinkedLemmas.{not_different, not_alone, is_linked}
use Rattle.wse_plain.proofs.linked.is_linked.Goals as goal

pub returns-then-not-are_different : goal.returns-then-not-are_different
returns-then-not-are_different c = not_different c.args.next_id c.args.records.now (sym c.are_different.ensures ∙ c.if-not-are_different.true)

pub returns-then-not-stand_alone : goal.returns-then-not-stand_alone
returns-then-not-stand_alone c = not_alone c.args.next_id c.args.records.now (sym c.stand_alone.ensures ∙ c.if-not-stand_alone.true)

pub returns : goal.returns
returns c =
    is_linked c.args.next_id c.args.records.now c.in_ok-fit.fit (sym c.are_different.ensures ∙ c.if-not-are_different.false) (sym c.stand_alone.ensures ∙ c.if-not-stand_alone.false) c.in_ok-fit.ensures
