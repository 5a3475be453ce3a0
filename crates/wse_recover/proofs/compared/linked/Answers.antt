use Rattle.wse_recover.proofs.ComparingLemmas.{linked_where_same, state_linked}
use Rattle.wse_recover.proofs.compared.linked.Goals as goal

pub returns-clause-linked : goal.returns-clause-linked
returns-clause-linked g c =
    let o = c.args.opened in
    state_linked o.stacks o.versions o.tree.files o.tree.is_tree c.count.ensures.linked c.count.ensures.bounded c.requires.bounded (linked_where_same o.tree.files o.stacks.state.records c.requires.same)
