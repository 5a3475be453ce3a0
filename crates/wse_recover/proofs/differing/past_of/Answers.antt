use Rattle.std.proofs.Common.{sym, ◌∙◌}
use Rattle.wse_recover.proofs.DifferLemmas.{past_found}
use Rattle.wse_recover.proofs.differing.past_of.Goals as goal

pub returns-in-Some : goal.returns-in-Some
returns-in-Some c =
    c.element.ensures
    ∙ past_found c.args.stacks.now.state.records c.args.path.now c.in-Some.id c.count.ensures.linked.different (sym c.closest_past.ensures ∙ c.in-Some.is)
