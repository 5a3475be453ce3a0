use Rattle.std.proofs.Common.{true, sym, ap, subst, ◌∙◌}
use Rattle.wse_path.specs.Tree.{Entries, put_all, IsTree}
use Rattle.wse_resource.specs.After.{without}
use Rattle.wse_resource.proofs.AfterLemmas.{tree_renamed}
use Rattle.wse_resource.proofs.over.rename.Goals as goal

pub put_all-requires : goal.put_all-requires
put_all-requires g c =
    let files = c.args.overlay.now.files in
    let from = c.args.from.now in
    let to = c.args.to.now in
    let left = c.in_ok-remove_within-2.ensures.files ∙ ap (λ (es : Entries). without es to) c.in_ok-remove_within.ensures.files in
    subst IsTree (sym (λ j. put_all (c.in_ok-moved.ensures.files j) (left j))) (tree_renamed files from to true true c.args.overlay.now.is_tree c.requires)
