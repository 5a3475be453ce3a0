use Rattle.wse_history.proofs.UndoLemmas.{moves_apply}
use Rattle.wse_history.proofs.laws.moves_may_apply.Goals as goal

pub returns : goal.returns
returns c = moves_apply
