use Rattle.std.proofs.Common.{◌+◌, [], ◌∷◌, cond, drop, ◌∙◌}
use Rattle.wse_locks.specs.Locks.{is_held}
use Rattle.wse_apply.specs.Stop.{held_among}
use Rattle.wse_apply.proofs.StepLemmas.{gathered_more, gathered_all, held_next, held_end}
use Rattle.wse_apply.proofs.accept.held_among.Goals as goal

pub loop-change-preserved : goal.loop-change-preserved
loop-change-preserved c =
    let locks = c.args.setting.now.locks in
    let by = c.args.setting.now.by in
    let cs = c.args.changes.now in
    let i = c.loop-change.change-index in
    let d = c.change-item.result in
    gathered_more c.loop-change.files.items (cond (is_held locks by d.path) (d.path ∷ []) []) c.note_held.new.files.items (held_among locks by (drop (i + 1) cs)) (held_among locks by (drop i cs)) (held_among locks by cs)
    c.in_ok-note_held.ensures
    (held_next locks by cs i d c.loop-change-test.true c.change-item.is)
    c.loop-change.invariant

pub returns : goal.returns
returns c =
    let locks = c.args.setting.now.locks in
    let by = c.args.setting.now.by in
    let cs = c.args.changes.now in
    let i = c.loop-change.change-index in
    c.new.ensures
    ∙ gathered_all c.loop-change.files.items (held_among locks by (drop i cs)) (held_among locks by cs) (held_end locks by cs i c.loop-change-test.false) c.loop-change.invariant
