use Rattle.std.proofs.Common.{◌≡◌, sym, ap, subst}
use Rattle.wse_path.specs.Tree.{Entries, TreeState, put_file, IsTree}
use Rattle.wse_path.proofs.MergeLemmas.{either}
use Rattle.wse_path.proofs.TreeLemmas.{tree_put}
use Rattle.wse_path.proofs.tree.Tree.put.Goals as goal

pub invariant_of-self-inside : goal.invariant_of-self-inside
invariant_of-self-inside c =
    let is : c.self.inside.map.entries ≡ c.args.self.now.files = ap (λ (t : TreeState). t.files) c.self.view_is in (
      either IsTree c.put.result c.put.new.self.entries (put_file c.self.inside.map.entries c.args.path c.args.bytes) c.self.inside.map.entries c.put.ensures.ok c.put.ensures.memory
          (subst (λ (es : Entries). IsTree (put_file es c.args.path c.args.bytes)) (sym is) (tree_put c.args.self.now.files c.args.path c.args.bytes c.args.self.now.is_tree c.requires)) c.self.inside.is_tree,
      tt,
    )
