-- What a participant that leaves does: it holds no path any more. This project's own rule.
use Rattle.std.specs.Prelude.{ℕ, not, nat_eq, filter}
use Rattle.wse_element.specs.State.{State}
use Rattle.wse_history.specs.declared.answer.Answer.TheVariants.{Left}
use Rattle.wse_history.specs.Outcome.{Outcome, locks_as}

abbrev pub leave_outcome : State → (by : ℕ) → Outcome
leave_outcome s by = locks_as (filter (λ e. not (nat_eq e.1 by)) s.locks) Left
