use Rattle.wse_apply.proofs.CourseLemmas.{ended, ended_next}
use Rattle.wse_apply.proofs.slowly.run_slowly.Goals as goal

pub loop-index-preserved : goal.loop-index-preserved
loop-index-preserved c =
    let setting = c.args.setting.now in
    let os = c.args.operations.now in
    ended_next setting c.loop-index.current.files c.in-Ok.new.files os c.index-operations-index.result c.loop-index.index (ended setting c.args.tree.now.files os) c.loop-index-test.true c.index-operations-index.is c.in-Ok.ensures.done c.loop-index.invariant
