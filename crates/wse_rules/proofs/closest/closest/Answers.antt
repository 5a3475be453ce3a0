use Rattle.std.proofs.Common.{sym, ◌∙◌}
use Rattle.wse_rules.proofs.ClosestLemmas.{found_closest}
use Rattle.wse_rules.proofs.closest.closest.Goals as goal

pub returns-in-Some : goal.returns-in-Some
returns-in-Some c =
    c.element.ensures
    ∙ found_closest c.args.direction c.args.stacks.now.state.records c.args.path.now c.in-Some.id c.count.ensures.linked.different (sym c.in-Some.is ∙ c.closest_id.ensures)
