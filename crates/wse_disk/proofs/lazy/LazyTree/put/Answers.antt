use Rattle.std.proofs.Common.{sym, subst}
use Rattle.wse_path.specs.Path.{Path}
use Rattle.wse_path.specs.Tree.{HasRoom}
use Rattle.wse_path.proofs.TreeLemmas.{tree_put}
use Rattle.wse_disk.proofs.lazy.LazyTree.put.Goals as goal

pub change-requires : goal.change-requires
change-requires c =
    let files = c.args.self.now.files in
    tree_put files c.in_ok-duplicate.field-0 _ c.args.self.now.is_tree (subst (λ (p : Path). HasRoom files p) (sym c.in_ok-duplicate.ensures) c.requires)
