-- A store that isn't opened.
use Rattle.std.proofs.Common.{◌≡◌, ℕ, List, Option, Err, refl, sym, subst}
use Rattle.std.specs.Prelude.{Bool}
use Rattle.url.specs.Parts.{Parts}
use Rattle.wse_path.specs.declared.limits.Limits.{Limits}
use Rattle.wse_disk.specs.Standing.{Standing}
use Rattle.wse_io.specs.Stream.{Piece}
use Rattle.wse_stream.specs.Runs.{Ending, HasCauses}
use Rattle.wse_stream.specs.Scene.{DiskAt, Scene, disk_at, scene, Faults, faults}
use Rattle.wse_server.specs.Serving.{ending_of as ending_of_serving}
use Rattle.wse_server.specs.declared.serving.ServeEnd.{ServeEnd}
use Rattle.wse_server.specs.declared.serving.ServeEnd.TheVariants as serves
use Rattle.wse_recover.specs.Open.{RefusesOpen, disk_of_fault, fault_may_adopt}
use Rattle.wse_recover.specs.declared.open.OpenFault.{OpenFault}
use Rattle.wse_recover.specs.declared.open.OpenFault.TheVariants as opens
use Rattle.wse_engine.specs.Engine.{EngineNow}
use Rattle.wse_engine.specs.Start.{StartKeeps}
use Rattle.wse_run.specs.End.{ending_of, end_of_served, IsServedEnd}
use Rattle.wse_run.specs.Fault.{end_of_fault}
use Rattle.wse_run.specs.Opening.{MayAdopt, Unread}
use Rattle.wse_run.specs.Run.{machine_of, RunsStore, Refused, Failed, Starved}
use Rattle.wse_run.specs.declared.end.RunEnd.{RunEnd}

module _ {D : Type 0} (moment_of : D → ℕ) (told : D → Option Standing) (count : D → ℕ) (adopt : Bool) (limits : Limits) (old : D) where
  module _ (root : Parts) (max_input : ℕ) (left : Option (List ℕ)) (pieces : Option (List Piece)) where
    abbrev UnreadBy : OpenFault D → Type 0
    UnreadBy fault = Unread (machine_of root limits) (MayAdopt (fault_may_adopt adopt fault)) (scene left pieces (disk_at moment_of told old)) (scene left pieces (disk_at moment_of told (disk_of_fault fault)))

    by_fault : (fault : OpenFault D) → UnreadBy fault
        → RefusesOpen told count adopt limits old fault → RunsStore root adopt limits max_input (scene left pieces (disk_at moment_of told old)) (scene left pieces (disk_at moment_of told (disk_of_fault fault))) (end_of_fault fault)
    by_fault (opens.Disk new) unread why = Failed unread refl
    by_fault (opens.NotAStore new place) unread why = Refused unread why
    by_fault (opens.TooBig new which found) unread why = Refused unread why
    by_fault (opens.Differs new p) unread why = Refused unread why
    by_fault (opens.Memory new) unread why = Starved unread refl

    -- the end tells why
    pub unopened_by : (fault : OpenFault D) (new : D) (end : RunEnd) → new ≡ disk_of_fault fault → end ≡ end_of_fault fault → UnreadBy fault
        → RefusesOpen told count adopt limits old fault → RunsStore root adopt limits max_input (scene left pieces (disk_at moment_of told old)) (scene left pieces (disk_at moment_of told new)) end
    unopened_by fault new end disk is unread why =
        subst (λ (e : RunEnd). RunsStore root adopt limits max_input (scene left pieces (disk_at moment_of told old)) (scene left pieces (disk_at moment_of told new)) e) (sym is)
        (subst (λ (d : D). RunsStore root adopt limits max_input (scene left pieces (disk_at moment_of told old)) (scene left pieces (disk_at moment_of told d)) (end_of_fault fault)) (sym disk)
        (by_fault fault unread why))

  causes_by : (fault : OpenFault D) (source sink : ℕ) → RefusesOpen told count adopt limits old fault → StartKeeps count old (Err fault)
      → HasCauses (ending_of (end_of_fault fault)) (faults source sink (count old)) (faults source sink (count (disk_of_fault fault)))
  causes_by (opens.Disk new) source sink why kept = record { source = refl; sink = refl; disk = (kept, why) }
  causes_by (opens.NotAStore new place) source sink why kept = record { source = refl; sink = refl; disk = kept }
  causes_by (opens.TooBig new which found) source sink why kept = record { source = refl; sink = refl; disk = kept }
  causes_by (opens.Differs new p) source sink why kept = record { source = refl; sink = refl; disk = kept }
  causes_by (opens.Memory new) source sink why kept = record { source = refl; sink = refl; disk = kept }

  -- only the disk's count may have risen
  pub unopened_causes : (fault : OpenFault D) (new : D) (end : RunEnd) (source sink : ℕ) → new ≡ disk_of_fault fault → end ≡ end_of_fault fault
      → RefusesOpen told count adopt limits old fault → StartKeeps count old (Err fault) → HasCauses (ending_of end) (faults source sink (count old)) (faults source sink (count new))
  unopened_causes fault new end source sink disk is why kept =
      subst (λ (e : RunEnd). HasCauses (ending_of e) (faults source sink (count old)) (faults source sink (count new))) (sym is)
      (subst (λ (d : D). HasCauses (ending_of (end_of_fault fault)) (faults source sink (count old)) (faults source sink (count d))) (sym disk)
      (causes_by fault source sink why kept))

-- ---- the end of serving

pub ending_served : (max_input : ℕ) (end : ServeEnd) → ending_of_serving end ≡ ending_of (end_of_served max_input end)
ending_served max_input serves.Done = refl
ending_served max_input serves.Read = refl
ending_served max_input serves.Write = refl
ending_served max_input serves.Disk = refl
ending_served max_input serves.Memory = refl
ending_served max_input (serves.InputLimit taken) = refl

pub is_served : (max_input : ℕ) (end : ServeEnd) → IsServedEnd max_input (end_of_served max_input end)
is_served max_input serves.Done = tt
is_served max_input serves.Read = tt
is_served max_input serves.Write = tt
is_served max_input serves.Disk = tt
is_served max_input serves.Memory = tt
is_served max_input (serves.InputLimit taken) = refl

-- the causes of serving
pub served_causes : (max_input : ℕ) (end : ServeEnd) (before now : Faults) → HasCauses (ending_of_serving end) before now → HasCauses (ending_of (end_of_served max_input end)) before now
served_causes max_input end before now causes = subst (λ (e : Ending). HasCauses e before now) (ending_served max_input end) causes
