use Rattle.std.proofs.Common.{ap}
use Rattle.wse_edits.specs.Refusal.{refusal}
use Rattle.wse_apply.specs.Next.{edits_reason}
use Rattle.wse_apply.proofs.TextLemmas.{told_by}
use Rattle.wse_apply.proofs.text.splices_of.Goals as goal

pub returns-in-Ok-clause-ok : goal.returns-in-Ok-clause-ok
returns-in-Ok-clause-ok c = ap edits_reason c.in-Ok.ensures.ok

pub returns-in-Err-clause-refused : goal.returns-in-Err-clause-refused
returns-in-Err-clause-refused c = told_by (refusal c.args.text.now c.args.enc c.args.edits.now) c.in-Err.why c.stop_of.result c.in-Err.ensures.err c.stop_of.ensures
