use Rattle.wse_element.proofs.TreeLemmas.{tree_after}
use Rattle.wse_element.proofs.laws.tree_stays_linked.Goals as goal

pub returns : goal.returns
returns c = tree_after
