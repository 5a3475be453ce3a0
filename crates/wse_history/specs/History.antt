-- What contracts see of a history. This project's own rule.
use Rattle.std.specs.Prelude.{◌≡◌, ◌≢◌, true, Option, Some, None}
use Rattle.std.specs.FinMap.{find}
use Rattle.wse_path.specs.Path.{Path}
use Rattle.wse_path.specs.Order.{path_cmp}
use Rattle.wse_path.specs.Tree.{Entries}
use Rattle.wse_path.specs.Versions.{Numbers}
use Rattle.wse_path.specs.Limits.{standard}
use Rattle.wse_path.specs.declared.limits.Limits.{Limits}
use Rattle.wse_locks.specs.Locks.{Holders}
use Rattle.wse_element.specs.declared.plan.Plan.{Plan}
use Rattle.wse_element.specs.Linked.{IsStateLinked}
use Rattle.wse_element.specs.State.{StacksState, State}
use Rattle.wse_stacks.specs.Stacks.{HaveParts}
use Rattle.wse_apply.specs.Limit.{are_within, limit_hit}

-- The state, the limits, how often each path's history turned, and the plan that is reserved.
pub record HistoryNow : Type 0 where
  pub state : State
  pub limits : Limits
  pub turned : Numbers
  pub reserved : Option Plan

abbrev pub state_in : StacksState → Numbers → Entries → Holders → State
state_in stacks versions files locks = record {
  files = files;
  versions = versions;
  records = stacks.records;
  next_id = stacks.next_id;
  serial = stacks.serial;
  locks = locks;
}

-- No path has an entry that says 0.
abbrev pub HasNoZero : Numbers → Type 0
HasNoZero versions = (q : Path) → find path_cmp q versions ≢ Some 0

-- What the type keeps: the state is linked, each record has parts, whose paths rise, no version that is told is 0, no limit is
-- above the program's, and the tree passes none of them.
pub record IsHistory (s : State) (limits : Limits) : Type 0 where
  pub linked : IsStateLinked s
  pub parts : HaveParts s.records
  pub told : HasNoZero s.versions
  pub within : are_within limits standard ≡ true
  pub fits : limit_hit limits s.files ≡ None
