use Rattle.std.proofs.Common.{◌∙◌, ap, arith}
use Rattle.wse_disk.specs.Replay.{drafted}
use Rattle.wse_disk.specs.Runs.{write_of, left_one}
use Rattle.wse_disk.proofs.RunLemmas.{left_more, count_more, few_more}
use Rattle.wse_disk.proofs.draft.Draft.leave_all.Goals as goal

pub loop-call-preserved : goal.loop-call-preserved
loop-call-preserved c =
    let inv = c.loop-call.invariant in
    let calls = c.args.calls.now in
    let i = c.loop-call.call-index in
    let call = c.call-item.result in
    let one = c.in_ok-leave.ensures ∙ ap (λ f. left_one f (write_of call) (drafted c.loop-call.self)) c.fate_at.ensures in
    record {
      done = left_more c.args.choice c.loop-call.index (drafted c.args.self.now) (drafted c.loop-call.self) (drafted c.leave.new.self) calls i call call c.loop-call-test.true c.call-item.is inv.done inv.count one;
      count = omega (arith, inv.count, c.writes-index.ensures, count_more calls i call call c.loop-call-test.true c.call-item.is);
      few = omega (arith, inv.few, few_more call c.writes-index.result c.writes-index.ensures);
    }
