-- A run over a store. This project's own rule.
use Rattle.std.specs.Prelude.{◌≡◌, ℕ, Bool, false}
use Rattle.url.specs.Parts.{Parts}
use Rattle.wse_path.specs.declared.limits.Limits.{Limits}
use Rattle.wse_element.specs.State.{State}
use Rattle.wse_stream.specs.Machine.{Machine}
use Rattle.wse_stream.specs.Opened.{RunsFrom}
use Rattle.wse_stream.specs.Runs.{lines_of}
use Rattle.wse_stream.specs.Scene.{Scene}
use Rattle.wse_store.specs.Store.{Setting, serving}
use Rattle.wse_promise.specs.Work.{KeepsWork}
use Rattle.wse_run.specs.End.{ending_of, IsServedEnd}
use Rattle.wse_run.specs.Refusal.{IsRefusal}
use Rattle.wse_run.specs.Opening.{Begins, MayAdopt, Unread}
use Rattle.wse_run.specs.declared.end.RunEnd.{RunEnd}
use Rattle.wse_run.specs.declared.end.RunEnd.TheVariants.{Disk, Memory}

-- A store with this root and these limits, and its machine.
abbrev pub setting_of : Parts → Limits → Setting
setting_of root limits = record { root = root; limits = limits }

abbrev pub machine_of : Parts → Limits → Machine State
machine_of root limits = serving (setting_of root limits)

-- How a run over a store went.
pub data RunsStore (root : Parts) (adopt : Bool) (limits : Limits) (max_input : ℕ) (before now : Scene) (end : RunEnd) : Type 0 where
  -- It was opened, and lines were served. No undo among them destroys work which its record didn't make.
  Served : (opened first : State) → Begins adopt limits before.disk.told opened first
      → (runs : RunsFrom (machine_of root limits) opened first max_input before now (ending_of end))
      → KeepsWork (setting_of root limits) first (lines_of max_input runs.taken runs.over)
      → IsServedEnd max_input end → RunsStore root adopt limits max_input before now end
  -- It was refused, and the end tells why. Nothing was adopted.
  Refused : Unread (machine_of root limits) (MayAdopt false) before now
      → IsRefusal adopt limits before.disk.told now.disk.told end → RunsStore root adopt limits max_input before now end
  -- The disk failed before it was opened. With `adopt` adopting may have come to the disk.
  Failed : Unread (machine_of root limits) (MayAdopt adopt) before now
      → end ≡ Disk → RunsStore root adopt limits max_input before now end
  -- There was no memory before it was opened. Nothing was adopted.
  Starved : Unread (machine_of root limits) (MayAdopt false) before now
      → end ≡ Memory → RunsStore root adopt limits max_input before now end
