use Rattle.wse_history.proofs.OutcomeLemmas.{outcomes_apply}
use Rattle.wse_history.proofs.laws.outcomes_may_apply.Goals as goal

pub returns : goal.returns
returns c = outcomes_apply
