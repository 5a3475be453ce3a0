use Rattle.wse_element.proofs.FoldLemmas.{state_stays}
use Rattle.wse_element.proofs.laws.state_stays_linked.Goals as goal

pub returns : goal.returns
returns c = state_stays
