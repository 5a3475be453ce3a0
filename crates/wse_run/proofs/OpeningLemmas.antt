-- A run behind an opening, and one whose store isn't opened.
use Rattle.std.proofs.Common.{◌≡◌, ◌⊎◌, inl, inr, ℕ, ◌≤◌, true, false, List, [], Option, Some, None, refl, sym, subst}
use Rattle.std.specs.Prelude.{Bool}
use Rattle.url.specs.Parts.{Parts}
use Rattle.wse_path.specs.declared.limits.Limits.{Limits}
use Rattle.wse_apply.specs.Limit.{limit_hit}
use Rattle.wse_element.specs.State.{State}
use Rattle.wse_element.specs.Linked.{IsStateLinked}
use Rattle.wse_disk.specs.Reading.{Reading}
use Rattle.wse_disk.specs.Standing.{Standing}
use Rattle.wse_disk.specs.Told.{WhereTold, MayLeave, IsTold, CountsMoments, reading_of}
use Rattle.wse_disk.specs.LeavesOnly.{LeavesOnly}
use Rattle.wse_disk.proofs.Moments.{no_call, weaker}
use Rattle.wse_io.specs.Stream.{Piece}
use Rattle.wse_txn.specs.Stands.{StandsFor}
use Rattle.wse_recover.specs.Adopting.{IsAdopted}
use Rattle.wse_recover.specs.Open.{IsOpened, StandsForOpened, AdoptsWithin}
use Rattle.wse_stream.specs.Opened.{IsEarlier, AtStart, AsOpened, RunsFrom}
use Rattle.wse_stream.specs.Rests.{StaysTold}
use Rattle.wse_stream.specs.Runs.{Ending, Runs, lines_of}
use Rattle.wse_stream.specs.Scene.{DiskAt, Scene, disk_at, scene}
use Rattle.wse_stream.proofs.MomentLemmas.{stretch_since}
use Rattle.wse_stream.proofs.OpenedLemmas.{runs_from}
use Rattle.wse_store.specs.Store.{serving}
use Rattle.wse_promise.specs.Work.{KeepsWork}
use Rattle.wse_engine.specs.Engine.{EngineNow}
use Rattle.wse_run.specs.End.{ending_of, IsServedEnd}
use Rattle.wse_run.specs.Opening.{Begins, MayAdopt, Unread}
use Rattle.wse_run.specs.Run.{setting_of, machine_of, RunsStore, Served}
use Rattle.wse_run.specs.declared.end.RunEnd.{RunEnd}
use Rattle.wse_run.proofs.AdoptLemmas.{adopted_once}

abbrev pub disk_told : ℕ → Option Standing → DiskAt
disk_told moment told = record { moment = moment; told = told }

-- what opening may leave
abbrev pub Leaves : (adopt : Bool) → (start now : Option Standing) → Type 0
Leaves adopt start now = (s : State) → StandsFor s (reading_of start) → LeavesOnly start now (λ image. MayLeave start image ⊎ StandsForOpened adopt s image)

module _ (root : Parts) (limits : Limits) (max_input : ℕ) (left : Option (List ℕ)) (pieces : Option (List Piece)) where
  -- without adopting
  plain : (moment : ℕ) (told : Option Standing) (s : State) (image : Reading) → MayLeave told image ⊎ StandsForOpened false s image
      → IsEarlier (machine_of root limits) s (disk_told moment told) image ⊎ StandsFor s image
  plain moment told s image (inl may) = inl (AtStart may)
  plain moment told s image (inr stands) = inr stands

  -- with adopting, which makes one state of the opened one
  adopting : (moment : ℕ) (told : Option Standing) (s first : State) (image : Reading) → IsAdopted s first → MayLeave told image ⊎ StandsForOpened true s image
      → IsEarlier (machine_of root limits) s (disk_told moment told) image ⊎ StandsFor first image
  adopting moment told s first image is (inl may) = inl (AtStart may)
  adopting moment told s first image is (inr (inl stands)) = inl (AsOpened stands)
  adopting moment told s first image is (inr (inr other)) = inr (subst (λ (t : State). StandsFor t image) (adopted_once s other.0 first other.1 is) other.2)

  -- lines were served behind an opening
  pub served : (adopt : Bool) (moment : ℕ) (told : Option Standing) (middle : DiskAt) (now : Scene) (first : State) (end : RunEnd)
      → CountsMoments told moment → moment ≤ middle.moment → WhereTold told (λ t. IsOpened adopt first t.reading) → Leaves adopt told middle.told → StaysTold told middle.told
      → first.locks ≡ [] → IsStateLinked first → limit_hit limits first.files ≡ None → WhereTold told (λ t. AdoptsWithin limits first t.reading)
      → Runs (machine_of root limits) first max_input (scene left pieces middle) now (ending_of end) → ((lines : List (List ℕ)) → KeepsWork (setting_of root limits) first lines) → IsServedEnd max_input end
      → RunsStore root adopt limits max_input (scene left pieces (disk_told moment told)) now end
  served adopt moment None middle now first end counts later opened during still unlocked linked fits adopts runs work is =
      let from = runs_from (machine_of root limits) first first left pieces max_input (disk_told moment None) middle now (ending_of end) counts later tt (λ t. absurd t) still runs in
      Served first first (record { is_first = λ t. absurd t; unlocked = unlocked; linked = linked; fits = fits; adopts = adopts }) from (work (lines_of max_input from.taken from.over)) is
  served false moment (Some d) middle now first end counts later opened during still unlocked linked fits adopts runs work is =
      let from = runs_from (machine_of root limits) first first left pieces max_input (disk_told moment (Some d)) middle now (ending_of end) counts later opened
      (λ t. weaker (Some d) middle.told _ _ (plain moment (Some d) first) (during first opened)) still runs in
      Served first first (record { is_first = λ t. refl; unlocked = unlocked; linked = linked; fits = fits; adopts = adopts }) from (work (lines_of max_input from.taken from.over)) is
  served true moment (Some d) middle now first end counts later opened during still unlocked linked fits adopts runs work is =
      let from = runs_from (machine_of root limits) opened.0 first left pieces max_input (disk_told moment (Some d)) middle now (ending_of end) counts later opened.1
      (λ t. weaker (Some d) middle.told _ _ (λ image may. adopting moment (Some d) opened.0 first image opened.2 may) (during opened.0 opened.1)) still runs in
      Served opened.0 first (record { is_first = λ t. opened.2; unlocked = unlocked; linked = linked; fits = fits; adopts = adopts }) from (work (lines_of max_input from.taken from.over)) is

  -- what an opening that is no more than begun may leave
  may_become : (adopt : Bool) (moment : ℕ) (told : Option Standing) (s : State) (image : Reading) → MayLeave told image ⊎ StandsForOpened adopt s image
      → IsEarlier (machine_of root limits) s (disk_told moment told) image ⊎ ((t : State) × MayAdopt adopt s t × StandsFor t image)
  may_become adopt moment told s image (inl may) = inl (AtStart may)
  may_become false moment told s image (inr stands) = inl (AsOpened stands)
  may_become true moment told s image (inr (inl stands)) = inl (AsOpened stands)
  may_become true moment told s image (inr (inr other)) = inr other

  stands_read : (told : Option Standing) (s : State) → IsTold told → WhereTold told (λ d. StandsFor s d.reading) → StandsFor s (reading_of told)
  stands_read None s t is = absurd t
  stands_read (Some d) s t is = is

  -- no line was read
  pub unread : (adopt : Bool) (moment : ℕ) (told : Option Standing) (now : DiskAt) → CountsMoments told moment → moment ≤ now.moment → Leaves adopt told now.told
      → Unread (machine_of root limits) (MayAdopt adopt) (scene left pieces (disk_told moment told)) (scene left pieces now)
  unread adopt moment told now counts later during = record {
    source = refl;
    sink = refl;
    later = later;
    images = λ t s is at image le left'. may_become adopt moment told s image
        (stretch_since told now.told moment at (λ c. MayLeave told c ⊎ StandsForOpened adopt s c) image counts t (λ _. during s (stands_read told s t is)) le left');
  }

  -- no call of the disk was made, or none that it tells of
  pub untouched : (adopt : Bool) (moment : ℕ) (told : Option Standing) (now : ℕ) (now_told : Option Standing) → CountsMoments told moment → moment ≤ now → now_told ≡ told
      → Unread (machine_of root limits) (MayAdopt adopt) (scene left pieces (disk_told moment told)) (scene left pieces (disk_told now now_told))
  untouched adopt moment told now now_told counts later same = unread adopt moment told (disk_told now now_told) counts later (λ s stands. no_call told now_told _ same (λ c may. inl may))

-- the lines that a server of the engine served
pub runs_of : {D : Type 0} (moment_of : D → ℕ) (told : D → Option Standing) (left : Option (List ℕ)) (pieces : Option (List Piece)) (max_input : ℕ) (now : Scene) (ending : Ending) (root given : Parts) (engine kept : EngineNow D) (limits : Limits)
    → given ≡ root → kept ≡ engine → engine.limits ≡ limits
    → Runs (serving (record { root = given; limits = kept.limits })) kept.state max_input (scene left pieces (disk_at moment_of told kept.disk)) now ending
    → Runs (machine_of root limits) engine.state max_input (scene left pieces (disk_at moment_of told engine.disk)) now ending
runs_of {D} moment_of told left pieces max_input now ending root given engine kept limits r e l runs =
    subst (λ (x : Limits). Runs (machine_of root x) engine.state max_input (scene left pieces (disk_at moment_of told engine.disk)) now ending) l
    (subst (λ (x : EngineNow D). Runs (machine_of root x.limits) x.state max_input (scene left pieces (disk_at moment_of told x.disk)) now ending) e
    (subst (λ (x : Parts). Runs (machine_of x kept.limits) kept.state max_input (scene left pieces (disk_at moment_of told kept.disk)) now ending) r runs))
