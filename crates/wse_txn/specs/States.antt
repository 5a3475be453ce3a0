-- What the states hold, and what is true of the disk in each.
use Rattle.std.specs.Prelude.{◌≡◌, ℕ, ◌^◌, ◌<◌, List, length, Option}
use Rattle.wse_element.specs.declared.plan.Plan.{Plan}
use Rattle.wse_disk.specs.declared.area.Area.{Area}
use Rattle.wse_disk.specs.Standing.{Standing}
use Rattle.wse_disk.specs.Told.{IsAtRest, IsSynced}
use Rattle.wse_disk.specs.Changes.{LeadsToTree}
use Rattle.wse_log.specs.Writing.{staging}
use Rattle.wse_codec.specs.Spelling.{record_bytes}
use Rattle.wse_txn.specs.Journal.{HasSettledJournal, HasUnsettledJournal}

-- A disk, the area of its journal, and the place of the journal's closed gate.
pub record Resting (D : Type 0) : Type 0 where
  pub disk : D
  pub area : Area
  pub gate : ℕ

-- The same with what is going to be done. The closed gate is behind the plan's record once that is written.
pub record Working (D : Type 0) : Type 0 where
  pub disk : D
  pub area : Area
  pub gate : ℕ
  pub plan : Plan

abbrev pub working : {D : Type 0} → Resting D → Plan → Working D
working resting plan = record { disk = resting.disk; area = resting.area; gate = resting.gate; plan = plan }

-- What a plan's record says.
abbrev pub body_of : Plan → List ℕ
body_of plan = record_bytes plan.effects

-- Nothing is pending, and the journal's records are settled.
pub record IsIdle (told : Option Standing) (area : Area) (gate : ℕ) : Type 0 where
  pub rests : IsAtRest told
  pub journal : HasSettledJournal told area gate
  pub small : gate < 2 ^ 63

-- So it is, and the plan's record is spelled.
pub record IsDrafted (told : Option Standing) (area : Area) (gate : ℕ) (plan : Plan) (staged : List ℕ) : Type 0 where
  pub idle : IsIdle told area gate
  pub spelled : staged ≡ staging (body_of plan)
  pub short : length (body_of plan) < 2 ^ 32
  pub tree : LeadsToTree told plan.changes

-- Nothing is pending, and the plan's record stands in the journal, not settled.
pub record StandsUnsettled (told : Option Standing) (area : Area) (gate : ℕ) (plan : Plan) : Type 0 where
  pub synced : IsSynced told
  pub journal : HasUnsettledJournal told area (body_of plan) gate
  pub some : 0 < gate
  pub small : gate < 2 ^ 63

-- So it is, and the tree isn't changed yet.
pub record IsSealedFor (told : Option Standing) (area : Area) (gate : ℕ) (plan : Plan) : Type 0 where
  pub written : StandsUnsettled told area gate plan
  pub tree : LeadsToTree told plan.changes
