use Rattle.std.proofs.Common.{◌≡◌, sym, ap, subst, ◌∙◌}
use Rattle.wse_path.specs.Tree.{Entries, TreeState, set_files, IsTree}
use Rattle.wse_path.proofs.ContentLemmas.{set_files_is}
use Rattle.wse_path.proofs.tree.Tree.set_all.Goals as goal

pub invariant_of-self-inside : goal.invariant_of-self-inside
invariant_of-self-inside c =
    let is : c.self.inside.map.entries ≡ c.args.self.now.files = ap (λ (t : TreeState). t.files) c.self.view_is in
    (subst IsTree (sym (c.update_all.ensures.entries ∙ set_files_is c.args.contents.items c.self.inside.map.entries ∙ ap (λ (es : Entries). set_files c.args.contents.items es) is)) c.requires.tree, tt)

pub returns-clause-files : goal.returns-clause-files
returns-clause-files c =
    let is : c.self.inside.map.entries ≡ c.args.self.now.files = ap (λ (t : TreeState). t.files) c.self.view_is in
    c.update_all.ensures.entries ∙ set_files_is c.args.contents.items c.self.inside.map.entries ∙ ap (λ (es : Entries). set_files c.args.contents.items es) is
