-- What a command is going to do. This project's own rule.
use Rattle.std.specs.Prelude.{◌≡◌, ◌≢◌, ℕ, true, List, [], ◌∷◌, Option, option_map}
use Rattle.std.specs.FinMap.{is_sorted}
use Rattle.wse_path.specs.Path.{Path}
use Rattle.wse_path.specs.Order.{path_cmp}
use Rattle.wse_path.specs.Changes.{changes_between}
use Rattle.wse_path.specs.declared.command.Command.{Command}
use Rattle.wse_path.specs.declared.limits.Limits.{Limits}
use Rattle.wse_locks.specs.Locks.{Holders, LocksState}
use Rattle.wse_element.specs.declared.effect.Effect.{Effect}
use Rattle.wse_element.specs.declared.effect.Effect.TheVariants.{Bump}
use Rattle.wse_element.specs.declared.plan.Plan.{Plan}
use Rattle.wse_element.specs.State.{State}
use Rattle.wse_element.specs.Effects.{state_after}
use Rattle.wse_codec.specs.Allowed.{IsSpellable}
use Rattle.wse_codec.specs.Comes.{MayCome}
use Rattle.wse_history.specs.declared.planned.Planned.{Planned}
use Rattle.wse_history.specs.Outcome.{Outcome}
use Rattle.wse_history.specs.History.{IsHistory}
use Rattle.wse_history.specs.Step.{outcome, recorded, with_locks}

-- The plan is what this outcome of the state records: its effects, and what they change in the tree.
pub record IsPlanOf (s : State) (o : Outcome) (plan : Plan) : Type 0 where
  pub effects : plan.effects ≡ o.effects
  pub changes : plan.changes ≡ changes_between s.files (recorded s o.effects).files

abbrev pub entries_of : Option LocksState → Option Holders
entries_of locks = option_map (λ (l : LocksState). l.entries) locks

-- What this outcome of the state records, the locks where they change, and its answer.
pub record PlansAsOutcome (s : State) (o : Outcome) (planned : Planned) : Type 0 where
  pub plan : IsPlanOf s o planned.plan
  pub locks : entries_of planned.locks ≡ o.locks
  pub answer : planned.answer ≡ o.answer

-- The command's plan, the locks where it changes them, and its answer.
abbrev pub PlansAs : Limits → State → Command → Planned → Type 0
PlansAs limits s command planned = PlansAsOutcome s (outcome limits s command) planned

-- The paths whose versions the effects raise, each with by how much.
abbrev pub bumps_in : List Effect → List (Path × ℕ)
bumps_in [] = []
bumps_in (Bump p by ∷ more) = (p, by) ∷ bumps_in more
bumps_in (_ ∷ more) = bumps_in more

-- A plan that records something may be written and may come, it raises versions in path order, and it leaves a state that the
-- type of histories keeps.
pub record MayRecord (limits : Limits) (s : State) (plan : Plan) : Type 0 where
  pub spells : IsSpellable plan.effects
  pub comes : MayCome s plan
  pub rises : is_sorted path_cmp (bumps_in plan.effects) ≡ true
  pub next : IsHistory (state_after s plan.effects) limits

abbrev pub MayRecordIfAny : Limits → State → Plan → Type 0
MayRecordIfAny limits s plan = plan.effects ≢ [] → MayRecord limits s plan

-- The plan with these effects.
abbrev pub plan_of : State → List Effect → Plan
plan_of s effects = record { effects = effects; changes = changes_between s.files (recorded s effects).files }

-- What a plan and these locks leave of the state.
abbrev pub committed : State → Plan → Option Holders → State
committed s plan locks = with_locks locks (recorded s plan.effects)
