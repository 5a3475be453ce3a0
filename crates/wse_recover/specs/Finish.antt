-- A store whose last record isn't settled, and is finished.
use Rattle.std.specs.Prelude.{◌≡◌, ℕ, List, [], ◌∷◌, ◌++◌}
use Rattle.wse_path.specs.Path.{Path}
use Rattle.wse_path.specs.Tree.{set_files, IsTree}
use Rattle.wse_path.specs.Changes.{changes_between}
use Rattle.wse_element.specs.Content.{Content}
use Rattle.wse_element.specs.declared.plan.Plan.{Plan}
use Rattle.wse_element.specs.State.{State, kept_of}
use Rattle.wse_disk.specs.declared.area.Area.{Area}
use Rattle.wse_disk.specs.Reading.{Reading, area_of}
use Rattle.wse_log.specs.Grammar.{JournalRecord, ClosedAt}
use Rattle.wse_txn.specs.Journal.{IsUnsettledJournal}
use Rattle.wse_txn.specs.Replay.{Leaves, Gives}
use Rattle.wse_txn.specs.States.{body_of}
use Rattle.wse_txn.specs.Stands.{chosen}

-- What is read stands for the state, when what the last record of its journal sets is made. That record is the plan's and isn't
-- settled, and the plan changes what it sets.
pub record IsUnfinished (s : State) (area : Area) (gate : ℕ) (plan : Plan) (reading : Reading) : Type 0 where
  pub same_area : area ≡ chosen reading
  pub before : List JournalRecord
  pub journal : IsUnsettledJournal (area_of area reading) before (body_of plan) gate
  pub sets : List (Path × Content)
  pub gives : Gives (before ++ record { body = body_of plan; mark = journal.mark } ∷ []) (ClosedAt gate) (Leaves (record { kept = kept_of s; sets = sets }))
  pub files : s.files ≡ set_files sets reading.files
  pub old_tree : IsTree reading.files
  pub new_tree : IsTree s.files
  pub changes : plan.changes ≡ changes_between reading.files (set_files sets reading.files)
