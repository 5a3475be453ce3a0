use Rattle.std.proofs.Common.{◌+◌, Bool, List, length, drop, sym, ap, ◌∙◌, arith}
use Rattle.std.specs.List.{list_any}
use Rattle.wse_element.specs.Record.{Record}
use Rattle.wse_element.specs.Stacks.{has_id}
use Rattle.wse_plain.proofs.FirstLemmas.{differ_more, differ_stop, tail_is}
use Rattle.wse_plain.proofs.linked.are_different.Goals as goal

pub loop-at-preserved : goal.loop-at-preserved
loop-at-preserved c =
    let records = c.args.records.now in
    let at = c.loop-at.at in
    let r = c.index-records-at.result in
    let e = c.has_id.ensures ∙ ap (λ (rs : List Record). list_any (has_id c.id.result) rs) (tail_is records (at + 1)) ∙ ap (λ n. list_any (has_id n) (drop (at + 1) records)) c.id.ensures in
    c.loop-at.invariant ∙ differ_more records at r c.has_id.result (omega (arith, c.loop-at-test.true)) c.index-records-at.is e c.if-has_id.false

pub returns-then-has_id : goal.returns-then-has_id
returns-then-has_id c =
    let records = c.args.records.now in
    let at = c.loop-at.at in
    let r = c.index-records-at.result in
    let e = c.has_id.ensures ∙ ap (λ (rs : List Record). list_any (has_id c.id.result) rs) (tail_is records (at + 1)) ∙ ap (λ n. list_any (has_id n) (drop (at + 1) records)) c.id.ensures in
    sym (c.loop-at.invariant ∙ differ_stop records at r c.has_id.result (omega (arith, c.loop-at-test.true)) c.index-records-at.is e c.if-has_id.true)
