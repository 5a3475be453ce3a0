-- When a run over a store can't but be done. This project's own rule.
use Rattle.std.specs.Prelude.{◌≡◌, ◌⊎◌, ◌≤◌, ℕ, Bool, true, false, List, length, Option, Some}
use Rattle.wse_path.specs.Causes.{Rose}
use Rattle.wse_path.specs.Path.{Path}
use Rattle.wse_path.specs.declared.limits.Limits.{Limits}
use Rattle.wse_path.specs.declared.limits.Hit.{Hit}
use Rattle.wse_element.specs.State.{State}
use Rattle.wse_disk.specs.Reading.{Reading}
use Rattle.wse_txn.specs.Stands.{StandsFor}
use Rattle.wse_stream.specs.Scene.{Faults}
use Rattle.wse_recover.specs.Open.{IsInTheWay, DiffersFirstAt, IsTooBig, AdoptsTooMuch}
use Rattle.wse_run.specs.declared.end.RunEnd.{RunEnd}
use Rattle.wse_run.specs.declared.end.RunEnd.TheVariants.{Done, Memory}

-- The image stands for a state, and none of the causes for which it is refused holds.
pub record IsOpenable (adopt : Bool) (limits : Limits) (image : Reading) : Type 0 where
  pub is_store : (s : State) × StandsFor s image
  pub is_clear : (p : Path) → IsInTheWay image p → ⊥
  pub fits : (hit : Hit) → IsTooBig limits hit image → ⊥
  pub adopts : adopt ≡ true → (hit : Hit) → AdoptsTooMuch limits hit image → ⊥
  pub agrees : adopt ≡ false → (p : Path) → DiffersFirstAt p image → ⊥

-- No count of faults rose, and the source has no more bytes than may be read as lines.
pub record IsCalm (max_input : ℕ) (left : Option (List ℕ)) (before now : Faults) : Type 0 where
  pub source : Rose before.source now.source → ⊥
  pub sink : Rose before.sink now.sink → ⊥
  pub disk : Rose before.disk now.disk → ⊥
  pub short : (all : List ℕ) × (left ≡ Some all) × (length all ≤ max_input)

-- All is done, or there was no memory.
abbrev pub IsDoneOrStarved : RunEnd → Type 0
IsDoneOrStarved end = (end ≡ Done) ⊎ (end ≡ Memory)
