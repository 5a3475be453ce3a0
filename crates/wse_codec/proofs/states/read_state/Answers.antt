use Rattle.std.proofs.Common.{ap, ◌∙◌, arith}
use Rattle.wse_codec.specs.Reading.{snapshot_at}
use Rattle.wse_codec.proofs.AnswerLemmas.{only_ok, only_err}
use Rattle.wse_codec.proofs.StateLemmas.{state_takes, state_again}
use Rattle.wse_codec.proofs.states.read_state.Goals as goal

pub returns-in-Ok-clause-spelled : goal.returns-in-Ok-clause-spelled
returns-in-Ok-clause-spelled c = state_takes c.args.body.now c.in-Ok.state (λ i. omega (arith, c.type_inv.body i)) c.in-Ok.ensures

pub returns-in-Ok-clause-only : goal.returns-in-Ok-clause-only
returns-in-Ok-clause-only c = λ v a e. only_ok (snapshot_at c.args.body.now) c.in-Ok.state v c.in-Ok.ensures (ap snapshot_at e ∙ state_again v a)

pub returns-in-Err-clause-only : goal.returns-in-Err-clause-only
returns-in-Err-clause-only c = λ v a e. rw c.refused.ensures.same (only_err c.args.body.now c.in-Err.why (snapshot_at c.args.body.now) v c.in-Err.ensures (ap snapshot_at e ∙ state_again v a))
