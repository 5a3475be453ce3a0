use Rattle.std.proofs.Common.{ap, ◌∙◌}
use Rattle.std.proofs.lemmas.Result.{IfOk-weaker}
use Rattle.wse_apply.proofs.CourseLemmas.{Ended, ended, ended_next, ended_all, failed_by}
use Rattle.wse_apply.proofs.course.run.Goals as goal

pub loop-index-preserved : goal.loop-index-preserved
loop-index-preserved c =
    let setting = c.args.setting.now in
    let os = c.args.operations.now in
    let i = c.loop-index.index in
    let o = c.index-operations-index.result in
    record {
      small = c.in-Ok.ensures.small;
      same = ended_next setting c.loop-index.overlay.files c.step.new.overlay.files os o i (ended setting c.args.overlay.now.files os) c.loop-index-test.true c.index-operations-index.is c.in-Ok.ensures.done c.loop-index.invariant.same;
      base = c.step.ensures.base ∙ c.loop-index.invariant.base;
    }

pub returns-clause-failed : goal.returns-clause-failed
returns-clause-failed c =
    let setting = c.args.setting.now in
    let os = c.args.operations.now in
    ap (λ (e : Ended). e.failed) (ended_all setting c.loop-index.overlay.files os c.loop-index.index (ended setting c.args.overlay.now.files os) c.loop-index-test.false c.loop-index.invariant.same)

pub returns-clause-reached : goal.returns-clause-reached
returns-clause-reached c =
    let setting = c.args.setting.now in
    let os = c.args.operations.now in
    ap (λ (e : Ended). e.files) (ended_all setting c.loop-index.overlay.files os c.loop-index.index (ended setting c.args.overlay.now.files os) c.loop-index-test.false c.loop-index.invariant.same)

pub returns-in-Err-clause-failed : goal.returns-in-Err-clause-failed
returns-in-Err-clause-failed c =
    let setting = c.args.setting.now in
    let os = c.args.operations.now in
    let i = c.loop-index.index in
    let o = c.index-operations-index.result in
    IfOk-weaker c.failed_at.result _ _
    (λ failed f. ap (λ (e : Ended). e.failed) (failed_by setting c.loop-index.overlay.files c.step.new.overlay.files os o i c.in-Err.stop failed (ended setting c.args.overlay.now.files os) c.loop-index-test.true c.index-operations-index.is c.in-Err.ensures.refused c.in-Err.ensures.kept c.loop-index.invariant.same f))
    c.failed_at.ensures

pub returns-in-Err-clause-reached : goal.returns-in-Err-clause-reached
returns-in-Err-clause-reached c =
    let setting = c.args.setting.now in
    let os = c.args.operations.now in
    let i = c.loop-index.index in
    let o = c.index-operations-index.result in
    IfOk-weaker c.failed_at.result _ _
    (λ failed f. ap (λ (e : Ended). e.files) (failed_by setting c.loop-index.overlay.files c.step.new.overlay.files os o i c.in-Err.stop failed (ended setting c.args.overlay.now.files os) c.loop-index-test.true c.index-operations-index.is c.in-Err.ensures.refused c.in-Err.ensures.kept c.loop-index.invariant.same f))
    c.failed_at.ensures
