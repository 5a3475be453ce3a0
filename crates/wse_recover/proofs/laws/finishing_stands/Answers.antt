use Rattle.wse_recover.proofs.FinishLemmas.{finish}
use Rattle.wse_recover.proofs.laws.finishing_stands.Goals as goal

pub returns : goal.returns
returns c = finish
