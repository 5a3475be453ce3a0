use Rattle.wse_history.proofs.ReportLemmas.{forgets_apply}
use Rattle.wse_history.proofs.laws.forgets_may_apply.Goals as goal

pub returns : goal.returns
returns c = forgets_apply
