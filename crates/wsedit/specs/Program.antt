-- What the program does, by what its words ask for. This project's own rule.
use Rattle.std.specs.Prelude.{◌≡◌, ℕ, List, Option, Some}
use Rattle.wse_path.specs.declared.limits.Limits.{Limits}
use Rattle.wse_io.specs.Stream.{Piece}
use Rattle.wse_stream.specs.Scene.{Scene}
use Rattle.wse_run.specs.Run.{RunsStore}
use Rattle.wse_words.specs.Words.{Asked, Init, Run, Show}
use Rattle.wsedit.specs.Making.{MakesStore}
use Rattle.wsedit.specs.Showing.{ShowsStore}
use Rattle.wsedit.specs.Status.{code_of, line_of, TellsLine}
use Rattle.wsedit.specs.declared.status.Status.{Status}
use Rattle.wsedit.specs.declared.status.Status.TheVariants.{Words, Ran}

-- What is asked for is done, and it ends so.
abbrev pub Does : Limits → (before now : Scene) → Asked → Status → Type 0
Does limits before now asked Words = ⊥
Does limits before now (Init tree store) (Ran end) = MakesStore limits before now end
Does limits before now (Run tree store root adopt max_input) (Ran end) = RunsStore root adopt limits max_input before now end
Does limits before now (Show tree store) (Ran end) = ShowsStore limits before now end

-- The status is that of an end which comes of what the words ask for, and the line of this end is told.
pub record Ends (limits : Limits) (before now : Scene) (asked : Option Asked) (status : ℕ) (errs_old errs_new : Option (List Piece)) (faults_old faults_new : ℕ) : Type 0 where
  pub end : Status
  pub is_status : status ≡ code_of end
  pub does : (a : Asked) → asked ≡ Some a → Does limits before now a end
  pub told : TellsLine (line_of end) errs_old errs_new faults_old faults_new
