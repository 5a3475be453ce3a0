use Rattle.wse_history.proofs.ReportLemmas.{outsides_apply}
use Rattle.wse_history.proofs.laws.outsides_may_apply.Goals as goal

pub returns : goal.returns
returns c = outsides_apply
