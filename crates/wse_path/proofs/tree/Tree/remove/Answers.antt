use Rattle.std.proofs.Common.{◌≡◌, sym, ap, subst, ◌∙◌}
use Rattle.wse_path.specs.Tree.{Entries, TreeState, remove_file, IsTree}
use Rattle.wse_path.proofs.TreeLemmas.{tree_remove}
use Rattle.wse_path.proofs.tree.Tree.remove.Goals as goal

pub invariant_of-self-inside : goal.invariant_of-self-inside
invariant_of-self-inside c =
    let is : c.self.inside.map.entries ≡ c.args.self.now.files = ap (λ (t : TreeState). t.files) c.self.view_is in
    (subst IsTree (sym (c.remove.ensures.entries ∙ ap (λ (es : Entries). remove_file es c.args.path.now) is)) (tree_remove c.args.self.now.files c.args.path.now c.args.self.now.is_tree), tt)
