-- Which of the pieces of a split stands at a path. This project's own rule.
use Rattle.std.specs.Prelude.{◌≡◌, ℕ, ◌+◌, List, [], ◌∷◌, if◌then◌else◌}
use Rattle.wse_path.specs.Path.{Path}
use Rattle.wse_path.specs.declared.command.Choice.{Choice}
use Rattle.wse_path.specs.declared.command.Direction.{Direction}
use Rattle.wse_element.specs.Live.{is_live, is_live_part_at}
use Rattle.wse_element.specs.Record.{RecordPart}
use Rattle.wse_element.specs.State.{State}
use Rattle.wse_rules.specs.Ruling.{ruling}
use Rattle.wse_rules.specs.declared.ruling.Ruling.TheVariants as rulings
use Rattle.wse_history.specs.declared.answer.SplitNote.{SplitNote}

-- How many live parts stand before the path's.
abbrev pub place : Path → List RecordPart → ℕ
place p [] = 0
place p (part ∷ more) = if is_live_part_at p part then 0 else (if is_live part.state then 1 else 0) + place p more

-- For some choice the participant's undo or redo at the path is ruled to come to this split.
pub record IsRuledSplit (s : State) (by : ℕ) (direction : Direction) (p : Path) (note : SplitNote) : Type 0 where
  pub choice : Choice
  pub rules : ruling direction s.records s.locks by p choice ≡ rulings.Split note.id note.cause note.files
