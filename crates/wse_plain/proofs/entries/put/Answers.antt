use Rattle.std.proofs.Common.{◌<◌, length, set, sym, ap, ◌∙◌, arith}
use Rattle.std.specs.FinMap.{put}
use Rattle.std.proofs.lemmas.List.{get_or_default}
use Rattle.wse_path.specs.Order.{path_cmp}
use Rattle.wse_plain.proofs.PutLemmas.{put_before, put_over, put_last}
use Rattle.wse_plain.proofs.entries.put.Goals as goal

pub returns-in-Less : goal.returns-in-Less
returns-in-Less g c =
    let inv = c.loop-at.invariant in
    let all = c.loop-at.all.items in
    let at = c.loop-at.at in
    c.in_ok-insert-in-Less.ensures.items
    ∙ put_before c.loop-at.path c.args.value all at inv.walked c.index.result.now (omega (arith, c.loop-at-test.true, ap length inv.same)) c.index.ensures (sym c.cmp.ensures ∙ c.in-Less.is)
    ∙ (λ i. put path_cmp (inv.path i) c.args.value (inv.same i))

pub returns-in-Equal : goal.returns-in-Equal
returns-in-Equal g c =
    let inv = c.loop-at.invariant in
    let all = c.loop-at.all.items in
    let at = c.loop-at.at in
    let within : at < length all = omega (arith, c.loop-at-test.true, ap length inv.same) in
    let one = c.index_mut.ensures.value ∙ get_or_default all at c.index_mut.result.now c.index.result.now within ∙ sym c.index.ensures in
    ap (λ e. set all at (e.0, c.args.value)) one
    ∙ put_over c.loop-at.path c.args.value all at inv.walked c.index.result.now within c.index.ensures (sym c.cmp.ensures ∙ c.in-Equal.is)
    ∙ (λ i. put path_cmp (inv.path i) c.args.value (inv.same i))

pub returns : goal.returns
returns g c =
    let inv = c.loop-at.invariant in
    c.in_ok-push.ensures.items
    ∙ put_last c.loop-at.path c.args.value c.loop-at.all.items c.loop-at.at inv.walked (omega (arith, c.loop-at-test.false, ap length inv.same))
    ∙ (λ i. put path_cmp (inv.path i) c.args.value (inv.same i))
