use Rattle.wse_txn.proofs.OneState.{stands_for_one}
use Rattle.wse_txn.proofs.laws.an_image_stands_for_one_state.Goals as goal

pub returns : goal.returns
returns c = stands_for_one
