use Rattle.wse_disk.specs.Replay.{drafted}
use Rattle.wse_disk.proofs.RunLemmas.{redo_more}
use Rattle.wse_disk.proofs.draft.Draft.redo_all.Goals as goal

pub loop-call-preserved : goal.loop-call-preserved
loop-call-preserved c =
    redo_more (drafted c.args.self.now) (drafted c.loop-call.self) (drafted c.redo.new.self) c.args.calls.now c.loop-call.call-index c.call-item.result c.call-item.result c.loop-call-test.true c.call-item.is c.loop-call.invariant c.in_ok-redo.ensures
