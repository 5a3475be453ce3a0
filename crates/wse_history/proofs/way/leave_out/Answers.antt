use Rattle.std.proofs.Common.{◌&&◌, not, ap, ◌∙◌}
use Rattle.std.specs.BTreeSet.{contains}
use Rattle.std.specs.Ordering.{eq_by_cmp}
use Rattle.wse_path.specs.Order.{path_cmp}
use Rattle.wse_history.proofs.NearLemmas.{left_out_more}
use Rattle.wse_history.proofs.way.leave_out.Goals as goal

pub loop-mark-preserved : goal.loop-mark-preserved
loop-mark-preserved c = λ q.
    let mark = c.mark-item.result in
    left_out_more (contains path_cmp c.args.found.now q) (contains path_cmp c.leave_out_one.new.found q) mark q c.args.marks.now c.loop-mark.mark-index c.loop-mark-test.true c.mark-item.is
    (c.leave_out_one.ensures q ∙ ap (λ b. not (eq_by_cmp path_cmp mark.0 q) && b) (c.loop-mark.invariant q))
