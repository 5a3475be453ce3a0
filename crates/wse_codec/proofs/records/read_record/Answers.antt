use Rattle.std.proofs.Common.{ap, ◌∙◌, arith}
use Rattle.wse_codec.specs.Reading.{record_at}
use Rattle.wse_codec.proofs.AnswerLemmas.{only_ok, only_err}
use Rattle.wse_codec.proofs.RecordLemmas.{record_takes, record_again}
use Rattle.wse_codec.proofs.records.read_record.Goals as goal

pub returns-in-Ok-clause-spelled : goal.returns-in-Ok-clause-spelled
returns-in-Ok-clause-spelled c = record_takes c.args.body.now c.in-Ok.effects (λ i. omega (arith, c.type_inv.body i)) c.in-Ok.ensures

pub returns-in-Ok-clause-only : goal.returns-in-Ok-clause-only
returns-in-Ok-clause-only c = λ v a e. only_ok (record_at c.args.body.now) c.in-Ok.effects v c.in-Ok.ensures (ap record_at e ∙ record_again v a)

pub returns-in-Err-clause-only : goal.returns-in-Err-clause-only
returns-in-Err-clause-only c = λ v a e. rw c.refused.ensures.same (only_err c.args.body.now c.in-Err.why (record_at c.args.body.now) v c.in-Err.ensures (ap record_at e ∙ record_again v a))
