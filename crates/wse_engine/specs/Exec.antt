-- What a command leaves. This project's own rule.
use Rattle.std.specs.Prelude.{◌≡◌, ◌≢◌, ◌≤◌, ⊤, ℕ, [], Option, Result, Ok, Err}
use Rattle.wse_path.specs.Causes.{Rose}
use Rattle.wse_path.specs.Versions.{version_of}
use Rattle.wse_path.specs.declared.command.Command.{Command}
use Rattle.wse_disk.specs.Reading.{Reading}
use Rattle.wse_disk.specs.Standing.{Standing}
use Rattle.wse_disk.specs.LeavesOnly.{LeavesOnly}
use Rattle.wse_stacks.specs.Turns.{Turned}
use Rattle.wse_history.specs.Outcome.{Outcome}
use Rattle.wse_history.specs.Step.{outcome, step}
use Rattle.wse_history.specs.declared.answer.Answer.{Answer}
use Rattle.wse_engine.specs.Engine.{EngineNow}
use Rattle.wse_engine.specs.declared.engine.ExecFault.{ExecFault}
use Rattle.wse_engine.specs.declared.engine.ExecFault.TheVariants as faults

-- What the command does here.
abbrev pub outcome_in : {D : Type 0} → EngineNow D → Command → Outcome
outcome_in engine command = outcome engine.limits engine.state command

-- The command's step, and its answer. A path's history turns once, where effects are recorded and it looks otherwise then.
pub record IsStep {D : Type 0} (old : EngineNow D) (command : Command) (new : EngineNow D) (answer : Answer) : Type 0 where
  pub state : new.state ≡ step old.limits old.state command
  pub limits : new.limits ≡ old.limits
  pub answered : answer ≡ (outcome_in old command).answer
  pub still : (outcome_in old command).effects ≡ [] → new.turned ≡ old.turned
  pub turns : (outcome_in old command).effects ≢ [] → Turned old.state.records new.state.records (version_of old.turned) (version_of new.turned)

abbrev pub disk_in : {D : Type 0} → ExecFault D → D
disk_in (faults.Memory engine) = engine.disk
disk_in (faults.Disk disk) = disk

-- The disk that is handed on or back.
abbrev pub disk_left : {D A : Type 0} → (A → D) → Result A (ExecFault D) → D
disk_left disk_of (Ok done) = disk_of done
disk_left disk_of (Err fault) = disk_in fault

-- Without memory the engine is as it was. A fault of the disk raised its count.
abbrev pub FailsExec : {D : Type 0} → (D → ℕ) → EngineNow D → ExecFault D → Type 0
FailsExec count old (faults.Memory engine) = engine ≡ old
FailsExec count old (faults.Disk disk) = (count old.disk ≤ count disk) × Rose (count old.disk) (count disk)

-- Whether it fails or not, a crash at any moment of it leaves what has the property.
abbrev pub ExecLeaves : {D A : Type 0} → (D → Option Standing) → (A → D) → D → Result A (ExecFault D) → (Reading → Type 0) → Type 0
ExecLeaves told disk_of old result P = LeavesOnly (told old) (told (disk_left disk_of result)) P

-- Whether it fails or not, no moment is lost.
abbrev pub ExecGoesOn : {D A : Type 0} → (D → ℕ) → (A → D) → D → Result A (ExecFault D) → Type 0
ExecGoesOn moment_of disk_of old result = moment_of old ≤ moment_of (disk_left disk_of result)

-- Where the disk didn't fail its count of faults is as it was.
abbrev pub ExecKeeps : {D A : Type 0} → (D → ℕ) → (A → D) → D → Result A (ExecFault D) → Type 0
ExecKeeps count disk_of old (Ok done) = count (disk_of done) ≡ count old
ExecKeeps count disk_of old (Err (faults.Memory engine)) = count engine.disk ≡ count old
ExecKeeps count disk_of old (Err (faults.Disk disk)) = ⊤
