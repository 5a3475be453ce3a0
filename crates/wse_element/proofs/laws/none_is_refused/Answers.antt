use Rattle.wse_element.proofs.FoldLemmas.{none_refused}
use Rattle.wse_element.proofs.laws.none_is_refused.Goals as goal

pub returns : goal.returns
returns c = none_refused
