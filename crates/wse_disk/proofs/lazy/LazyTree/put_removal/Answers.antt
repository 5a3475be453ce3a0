use Rattle.wse_path.proofs.TreeLemmas.{tree_remove}
use Rattle.wse_disk.proofs.lazy.LazyTree.put_removal.Goals as goal

pub change-requires : goal.change-requires
change-requires c = tree_remove c.args.self.now.files c.in_ok-duplicate.field-0 c.args.self.now.is_tree
