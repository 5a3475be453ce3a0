use Rattle.std.proofs.Common.{ap, ◌∙◌}
use Rattle.std.proofs.lemmas.Result.{IfOk-weaker}
use Rattle.wse_history.specs.Marks.{marked_in_the_way}
use Rattle.wse_history.specs.Moving.{contents_to}
use Rattle.wse_history.proofs.MovedLemmas.{marks_are}
use Rattle.wse_history.proofs.NearLemmas.{way_of_marks}
use Rattle.wse_history.proofs.goes.blocking.Goals as goal

pub returns : goal.returns
returns c =
    let files = c.args.tree.now.files in
    let parts = c.args.parts.now in
    IfOk-weaker c.in_the_way.result _ _
    (λ found is. is ∙ ap (marked_in_the_way files) (c.as_slice.ensures.value ∙ c.in_ok-marks.ensures ∙ marks_are c.args.direction parts) ∙ way_of_marks files (contents_to c.args.direction parts))
    c.in_the_way.ensures
