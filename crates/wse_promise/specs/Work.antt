-- That an undo in a run destroys no work which its element didn't make. This project's own rule.
use Rattle.std.specs.Prelude.{◌≡◌, ℕ, ◌+◌, true, false, List, Option, Some, Ok, slice_get}
use Rattle.wse_path.specs.Path.{Path}
use Rattle.wse_path.specs.Tree.{Entries, content}
use Rattle.wse_path.specs.declared.change.Numbered.{Numbered}
use Rattle.wse_path.specs.declared.command.Choice.{Choice}
use Rattle.wse_path.specs.declared.command.Command.TheVariants as commands
use Rattle.wse_path.specs.declared.command.Direction.{Direction}
use Rattle.wse_path.specs.declared.command.Direction.TheVariants.{Back, Forward}
use Rattle.wse_element.specs.Record.{Record}
use Rattle.wse_element.specs.Live.{is_live_at}
use Rattle.wse_element.specs.Stacks.{record_of}
use Rattle.wse_element.specs.State.{State}
use Rattle.wse_json.specs.Commands.{command_in}
use Rattle.wse_history.specs.declared.answer.Answer.TheVariants as answers
use Rattle.wse_history.specs.declared.answer.MoveEnd.TheVariants as ends
use Rattle.wse_history.specs.declared.answer.SplitNote.{SplitNote}
use Rattle.wse_reply.specs.declared.reply.Reply.TheVariants as replies
use Rattle.wse_store.specs.Store.{Setting, reply}
use Rattle.wse_lives.specs.Lives.{came_with}
use Rattle.wse_lives.specs.Returns.{moved_among}
use Rattle.wse_promise.specs.Fronts.{behind}

-- The tree that the line behind k others finds, and the one that it leaves.
abbrev pub tree_before : Setting → (first : State) → List (List ℕ) → (k : ℕ) → Entries
tree_before setting first lines k = (behind setting first lines k).files

abbrev pub tree_after : Setting → (first : State) → List (List ℕ) → (k : ℕ) → Entries
tree_after setting first lines k = (behind setting first lines (k + 1)).files

-- The line behind k others asks for an undo, or for a redo, and is answered as done of the record with this id, behind the split
-- that the note tells of, if one came.
pub record IsDoneAt (setting : Setting) (first : State) (lines : List (List ℕ)) (k : ℕ) (direction : Direction) (note : Option SplitNote) (id : ℕ) : Type 0 where
  pub line : List ℕ
  pub is_line : slice_get lines k ≡ Some line
  pub by : ℕ
  pub path : Path
  pub choice : Choice
  pub asks : command_in setting.root line ≡ Ok (commands.Move by direction path choice)
  pub versions : List Numbered
  pub answer : reply setting (behind setting first lines k) line ≡ replies.Answer (answers.Move note (ends.Done id versions))

-- The line behind `undone` others undid this record, whose origin the line behind `made` others made.
pub record Undoes (setting : Setting) (first : State) (lines : List (List ℕ)) (made undone : ℕ) (r : Record) : Type 0 where
  pub note : Option SplitNote
  pub is_done : IsDoneAt setting first lines undone Back note r.id
  pub is_moved : record_of (moved_among (behind setting first lines undone) note) r.id ≡ Some r
  pub is_made : came_with (behind setting first lines made) (behind setting first lines (made + 1)) r.origin ≡ true

-- It found at the record's paths what the line that made the origin left, leaves there what that line found, and leaves every
-- other path. Where the next line is answered as done of the same record by redo, it leaves the tree that the undo found.
pub record GivesBack (setting : Setting) (first : State) (lines : List (List ℕ)) (made undone : ℕ) (r : Record) : Type 0 where
  pub found : (p : Path) → is_live_at p r ≡ true → content (tree_before setting first lines undone) p ≡ content (tree_after setting first lines made) p
  pub left : (p : Path) → is_live_at p r ≡ true → content (tree_after setting first lines undone) p ≡ content (tree_before setting first lines made) p
  pub others : (p : Path) → is_live_at p r ≡ false → content (tree_after setting first lines undone) p ≡ content (tree_before setting first lines undone) p
  pub again : (note : Option SplitNote) → IsDoneAt setting first lines (undone + 1) Forward note r.id → tree_after setting first lines (undone + 1) ≡ tree_before setting first lines undone

-- So it is with each undo of the lines whose record's origin one of them made.
abbrev pub KeepsWork : Setting → (first : State) → List (List ℕ) → Type 0
KeepsWork setting first lines = (made undone : ℕ) (r : Record) → Undoes setting first lines made undone r → GivesBack setting first lines made undone r
