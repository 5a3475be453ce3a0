use Rattle.std.proofs.Common.{◌+◌, drop, ◌∙◌}
use Rattle.wse_apply.specs.Skips.{skips_at, skips_from}
use Rattle.wse_apply.proofs.StepLemmas.{gathered_more, gathered_all, skips_next, skips_end}
use Rattle.wse_apply.proofs.skips.skips_of.Goals as goal

pub loop-index-preserved : goal.loop-index-preserved
loop-index-preserved c =
    let os = c.args.operations.now in
    let i = c.loop-index.index in
    let d = c.index-operations-index.result in
    gathered_more c.loop-index.skips.items (skips_at i d) c.push_skips.new.skips.items (skips_from (i + 1) (drop (i + 1) os)) (skips_from i (drop i os)) (skips_from 0 os)
    c.in_ok-push_skips.ensures
    (skips_next os i d c.loop-index-test.true c.index-operations-index.is)
    c.loop-index.invariant

pub returns : goal.returns
returns c =
    let os = c.args.operations.now in
    let i = c.loop-index.index in
    c.new.ensures
    ∙ gathered_all c.loop-index.skips.items (skips_from i (drop i os)) (skips_from 0 os) (skips_end os i c.loop-index-test.false) c.loop-index.invariant
