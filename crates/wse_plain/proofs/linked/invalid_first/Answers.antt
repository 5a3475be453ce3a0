use Rattle.std.proofs.Common.{◌+◌, List, not, sym, ap, ◌∙◌, arith}
use Rattle.std.specs.List.{list_any}
use Rattle.wse_element.specs.Record.{Record}
use Rattle.wse_element.specs.Live.{is_valid_at}
use Rattle.wse_plain.proofs.FirstLemmas.{first_stop, tail_is}
use Rattle.wse_plain.proofs.linked.invalid_first.Goals as goal

pub returns-then-is_valid_at : goal.returns-then-is_valid_at
returns-then-is_valid_at c =
    let path = c.args.path.now in
    ap not (c.any_invalid.ensures ∙ ap (λ (rs : List Record). list_any (λ (r : Record). not (is_valid_at path r)) rs) (tail_is c.args.records.now (c.loop-at.at + 1)))
    ∙ sym (c.loop-at.invariant ∙ first_stop (λ (r : Record). not (is_valid_at path r)) c.args.records.now c.loop-at.at c.index-records-at.result (omega (arith, c.loop-at-test.true)) c.index-records-at.is (ap not (sym c.is_valid_at.ensures ∙ c.if-is_valid_at.true)))
