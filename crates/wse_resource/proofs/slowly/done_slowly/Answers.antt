use Rattle.std.proofs.Common.{sym, ap, ◌∙◌}
use Rattle.wse_resource.specs.Table.{outcome}
use Rattle.wse_resource.specs.Course.{limit_outcome}
use Rattle.wse_resource.proofs.OutcomeLemmas.{created_room}
use Rattle.wse_resource.proofs.slowly.done_slowly.Goals as goal

pub with_empty-requires : goal.with_empty-requires
with_empty-requires c =
    let files = c.args.tree.now.files in
    let create = c.in-Create in
    created_room files create.path create.overwrite create.ignore (ap (outcome files) (sym create.is) ∙ c.requires ∙ ap (limit_outcome files) create.is)
