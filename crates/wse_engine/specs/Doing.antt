-- How a command that was planned is done. This project's own rule.
use Rattle.std.specs.Prelude.{◌≡◌, ◌≢◌, [], Option, Some}
use Rattle.wse_path.specs.Versions.{version_of}
use Rattle.wse_locks.specs.Locks.{Holders}
use Rattle.wse_disk.specs.Standing.{Standing}
use Rattle.wse_disk.specs.Told.{IsTold}
use Rattle.wse_element.specs.declared.plan.Plan.{Plan}
use Rattle.wse_stacks.specs.Turns.{Turned}
use Rattle.wse_codec.specs.Comes.{MayCome}
use Rattle.wse_txn.specs.States.{Working}
use Rattle.wse_txn.specs.Command.{IsAt}
use Rattle.wse_history.specs.History.{HistoryNow}
use Rattle.wse_history.specs.Planning.{committed}
use Rattle.wse_engine.specs.Engine.{EngineNow}

-- What is drafted records something, may come in the history's state, for which the disk stands, and is reserved.
pub record MayBeWritten {D : Type 0} (told : Option Standing) (drafted : Working D) (history : HistoryNow) : Type 0 where
  pub at : IsTold told → IsAt history.state drafted.area drafted.gate told
  pub some : drafted.plan.effects ≢ []
  pub may : MayCome history.state drafted.plan
  pub reserved : history.reserved ≡ Some drafted.plan

-- The plan is entered, and these locks, where they change. Each path's history turned once, if it looks otherwise then.
pub record HasEntered {D : Type 0} (plan : Plan) (locks : Option Holders) (old : HistoryNow) (new : EngineNow D) : Type 0 where
  pub state : new.state ≡ committed old.state plan locks
  pub limits : new.limits ≡ old.limits
  pub turns : Turned old.state.records new.state.records (version_of old.turned) (version_of new.turned)

-- The plan is done, and these locks are taken, where they change.
pub record HasDone {D : Type 0} (plan : Plan) (locks : Option Holders) (old new : EngineNow D) : Type 0 where
  pub state : new.state ≡ committed old.state plan locks
  pub limits : new.limits ≡ old.limits
  pub still : plan.effects ≡ [] → new.turned ≡ old.turned
  pub turns : plan.effects ≢ [] → Turned old.state.records new.state.records (version_of old.turned) (version_of new.turned)
