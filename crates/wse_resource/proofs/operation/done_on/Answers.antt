use Rattle.std.proofs.Common.{sym, ap, subst, ◌∙◌}
use Rattle.wse_path.specs.Path.{Path}
use Rattle.wse_path.specs.Tree.{HasRoom}
use Rattle.wse_resource.specs.Table.{outcome}
use Rattle.wse_resource.specs.Course.{limit_outcome}
use Rattle.wse_resource.proofs.OutcomeLemmas.{created_room}
use Rattle.wse_resource.proofs.operation.done_on.Goals as goal

pub put-requires : goal.put-requires
put-requires g c =
    let files = c.args.overlay.now.files in
    let create = c.in-Create in
    subst (λ (p : Path). HasRoom files p) (sym c.in_ok-duplicate-in-Create.ensures)
    (created_room files create.path create.overwrite create.ignore (ap (outcome files) (sym create.is) ∙ c.requires ∙ ap (limit_outcome files) create.is))
