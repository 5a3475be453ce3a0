use Rattle.std.proofs.Common.{List, ap, ◌∙◌}
use Rattle.std.proofs.lemmas.Result.{on_ok_weaker}
use Rattle.wse_path.specs.Path.{Path}
use Rattle.wse_resource.specs.After.{removed_each}
use Rattle.wse_resource.proofs.OverLemmas.{removed_within}
use Rattle.wse_resource.proofs.over.remove_within.Goals as goal

pub returns-clause-files : goal.returns-clause-files
returns-clause-files g c =
    let files = c.args.overlay.now.files in
    on_ok_weaker c.remove_all.result
    (λ is. is ∙ ap (λ (ps : List Path). removed_each ps files) (c.as_slice.ensures ∙ c.in_ok-paths.ensures) ∙ removed_within files c.args.path.now c.args.overlay.now.is_tree.rises)
    c.remove_all.ensures.files
