use Rattle.wse_txn.proofs.Together.{whole}
use Rattle.wse_txn.proofs.laws.a_command_is_whole.Goals as goal

pub returns : goal.returns
returns c = whole
