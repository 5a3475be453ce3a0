use Rattle.std.proofs.Common.{ap, ◌∙◌, slice_get}
use Rattle.wse_path.proofs.UnderLemmas.{any_first, any_none}
use Rattle.wse_path.proofs.tree.Tree.is_folder.Goals as goal

pub returns-in-Some : goal.returns-in-Some
returns-in-Some c = c.is_under.ensures ∙ any_first c.args.path.now c.args.self.now.files c.in-Some.entry.now c.args.self.now.is_tree.rises (c.in-Some.ensures.value ∙ ap (λ es. slice_get es 0) c.behind.ensures)

pub returns-in-None : goal.returns-in-None
returns-in-None c = any_none c.args.path.now c.args.self.now.files (c.in-None.ensures.value ∙ ap (λ es. slice_get es 0) c.behind.ensures)
