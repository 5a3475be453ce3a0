-- A command that was planned and done is the command's step.
use Rattle.std.proofs.Common.{◌≡◌, List, [], Option, sym, ap, ◌∙◌}
use Rattle.wse_path.specs.Changes.{changes_between}
use Rattle.wse_path.specs.declared.command.Command.{Command}
use Rattle.wse_path.specs.declared.limits.Limits.{Limits}
use Rattle.wse_path.proofs.GatheredLemmas.{no_changes}
use Rattle.wse_locks.specs.Locks.{Holders}
use Rattle.wse_element.specs.declared.effect.Effect.{Effect}
use Rattle.wse_element.specs.State.{State}
use Rattle.wse_history.specs.Step.{with_locks, recorded, outcome, step}
use Rattle.wse_history.specs.Planning.{PlansAs, committed, entries_of}
use Rattle.wse_history.specs.declared.planned.Planned.{Planned}
use Rattle.wse_engine.specs.Engine.{EngineNow}
use Rattle.wse_engine.specs.Exec.{IsStep}
use Rattle.wse_engine.specs.Doing.{HasDone}

pub step_of : {D : Type 0} (old : EngineNow D) (command : Command) (planned : Planned) → PlansAs old.limits old.state command planned → committed old.state planned.plan (entries_of planned.locks) ≡ step old.limits old.state command
step_of old command planned is =
    ap (λ (locks : Option Holders). with_locks locks (recorded old.state planned.plan.effects)) is.locks
    ∙ ap (λ (es : List Effect). with_locks (outcome old.limits old.state command).locks (recorded old.state es)) is.plan.effects

pub is_step : {D : Type 0} (old : EngineNow D) (command : Command) (planned : Planned) (new : EngineNow D) → PlansAs old.limits old.state command planned → HasDone planned.plan (entries_of planned.locks) old new → IsStep old command new planned.answer
is_step old command planned new is done = record {
  state = done.state ∙ step_of old command planned is;
  limits = done.limits;
  answered = is.answer;
  still = λ none. done.still (is.plan.effects ∙ none);
  turns = λ some. done.turns (λ none. some (sym is.plan.effects ∙ none));
}

-- Where nothing is recorded nothing changes.
pub unchanged : (limits : Limits) (s : State) (command : Command) (planned : Planned) → PlansAs limits s command planned → planned.plan.effects ≡ [] → planned.plan.changes ≡ []
unchanged limits s command planned is none =
    is.plan.changes
    ∙ ap (λ (es : List Effect). changes_between s.files (recorded s es).files) (sym is.plan.effects ∙ none)
    ∙ no_changes s.files
