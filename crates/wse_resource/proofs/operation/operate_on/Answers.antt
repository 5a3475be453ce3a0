use Rattle.std.proofs.lemmas.Result.{on_ok_weaker}
use Rattle.wse_resource.proofs.OutcomeLemmas.{leaves_tree}
use Rattle.wse_resource.proofs.operation.operate_on.Goals as goal

pub returns-in-Goes-clause-tree : goal.returns-in-Goes-clause-tree
returns-in-Goes-clause-tree g c =
    on_ok_weaker c.done_on.result (λ _. leaves_tree c.args.overlay.now.files c.args.op.now c.args.overlay.now.is_tree) c.done_on.ensures.done
