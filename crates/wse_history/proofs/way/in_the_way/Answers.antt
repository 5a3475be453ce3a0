use Rattle.std.proofs.Common.{◌&&◌, not, ap, ◌∙◌}
use Rattle.std.proofs.lemmas.Result.{IfOk-weaker}
use Rattle.wse_history.specs.Marks.{is_marked}
use Rattle.wse_history.proofs.NearLemmas.{sorted_keyed, way_is}
use Rattle.wse_history.proofs.way.in_the_way.Goals as goal

pub returns : goal.returns
returns c =
    let files = c.args.tree.now.files in
    let marks = c.args.marks.now in
    let keys = c.leave_out.new.found.keys in
    IfOk-weaker c.listed.result _ _
    (λ found is. is ∙ way_is files marks keys c.args.tree.now.is_tree (sorted_keyed keys c.len.ensures.ordered)
    (λ q. c.leave_out.ensures q ∙ ap (λ b. not (is_marked marks q) && b) (c.in_ok-found.ensures q)))
    c.listed.ensures
