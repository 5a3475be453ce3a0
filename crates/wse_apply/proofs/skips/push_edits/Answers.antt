use Rattle.std.proofs.Common.{◌+◌, ◌++◌, drop}
use Rattle.wse_apply.specs.Skips.{skips_edit, skipped_edits}
use Rattle.wse_apply.proofs.StepLemmas.{gathered_more, gathered_all, edits_next, edits_end}
use Rattle.wse_apply.proofs.skips.push_edits.Goals as goal

pub loop-index-preserved : goal.loop-index-preserved
loop-index-preserved c =
    let k = c.args.operation in
    let es = c.args.edits.now in
    let i = c.loop-index.index in
    let d = c.index-edits-index.result in
    gathered_more c.loop-index.skips.items (skips_edit k i d) c.push_edit.new.skips.items (skipped_edits k (i + 1) (drop (i + 1) es)) (skipped_edits k i (drop i es)) (c.args.skips.now.items ++ skipped_edits k 0 es)
    c.in_ok-push_edit.ensures
    (edits_next k es i d c.loop-index-test.true c.index-edits-index.is)
    c.loop-index.invariant

pub returns : goal.returns
returns c =
    let k = c.args.operation in
    let es = c.args.edits.now in
    let i = c.loop-index.index in
    gathered_all c.loop-index.skips.items (skipped_edits k i (drop i es)) (c.args.skips.now.items ++ skipped_edits k 0 es) (edits_end k es i c.loop-index-test.false) c.loop-index.invariant
