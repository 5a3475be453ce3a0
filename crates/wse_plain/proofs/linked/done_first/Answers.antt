use Rattle.std.proofs.Common.{◌+◌, List, not, sym, ap, ◌∙◌, arith}
use Rattle.std.specs.List.{list_any}
use Rattle.wse_element.specs.Record.{Record}
use Rattle.wse_plain.proofs.FirstLemmas.{first_stop, tail_is}
use Rattle.wse_plain.proofs.linked.done_first.Goals as goal

pub returns-then-not-is_done : goal.returns-then-not-is_done
returns-then-not-is_done c =
    ap not (c.any_done.ensures ∙ ap (λ (rs : List Record). list_any (λ (r : Record). r.done) rs) (tail_is c.args.records.now (c.loop-at.at + 1)))
    ∙ sym (c.loop-at.invariant ∙ first_stop (λ (r : Record). r.done) c.args.records.now c.loop-at.at c.index-records-at.result (omega (arith, c.loop-at-test.true)) c.index-records-at.is (sym c.is_done.ensures ∙ c.if-not-is_done.true))
