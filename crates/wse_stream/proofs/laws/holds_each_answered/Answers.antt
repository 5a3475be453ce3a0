use Rattle.wse_stream.proofs.AckLemmas.{acknowledged}
use Rattle.wse_stream.proofs.laws.holds_each_answered.Goals as goal

pub returns : goal.returns
returns g c = λ some n s ls out image held count le whole. acknowledged g.M.HasMachine.machine some n s ls out image held count le whole
