use Rattle.std.proofs.Common.{◌≡◌, sym, ap, subst, ◌∙◌}
use Rattle.wse_path.specs.Tree.{Entries, TreeState, put_file, IsTree}
use Rattle.wse_path.proofs.TreeLemmas.{tree_put}
use Rattle.wse_path.proofs.tree.Tree.put_reserved.Goals as goal

pub invariant_of-self-inside : goal.invariant_of-self-inside
invariant_of-self-inside c =
    let is : c.self.inside.map.entries ≡ c.args.self.now.files = ap (λ (t : TreeState). t.files) c.self.view_is in
    (subst IsTree (sym (c.put_reserved.ensures.entries ∙ ap (λ (es : Entries). put_file es c.args.path c.args.bytes) is)) (tree_put c.args.self.now.files c.args.path c.args.bytes c.args.self.now.is_tree c.requires.free), tt)
