use Rattle.std.proofs.Common.{◌≡◌, ℕ, true, List, Option, sym, ap, subst, ◌∙◌}
use Rattle.std.specs.FinMap.{is_sorted}
use Rattle.wse_path.specs.Order.{path_cmp}
use Rattle.wse_path.specs.Path.{Path}
use Rattle.wse_path.specs.Tree.{Entries, IsTree, set_files}
use Rattle.wse_path.specs.Changes.{contents_of}
use Rattle.wse_path.proofs.LeadLemmas.{lead_rises, lead_set}
use Rattle.wse_resource_tests.proofs.many.set_all.Goals as goal

pub set_all-requires-clause-rises : goal.set_all-requires-clause-rises
set_all-requires-clause-rises c =
    subst (λ (l : List (Path × Option (List ℕ))). is_sorted path_cmp l ≡ true) (sym c.in_ok-contents.ensures) (lead_rises c.args.tree.now.files c.args.changes.now c.requires)

pub set_all-requires-clause-tree : goal.set_all-requires-clause-tree
set_all-requires-clause-tree c =
    let are = ap (λ (l : List (Path × Option (List ℕ))). set_files l c.reserve.new.self.files) c.in_ok-contents.ensures in
    let same = ap (λ (es : Entries). set_files (contents_of c.args.changes.now) es) c.reserve.ensures.same in
    subst IsTree (sym (are ∙ same ∙ lead_set c.args.tree.now.files c.args.changes.now c.requires)) c.requires.tree
