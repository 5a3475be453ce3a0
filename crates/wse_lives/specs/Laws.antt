-- What holds of the definitions.
use Rattle.std.specs.Prelude.{◌≡◌, ◌+◌, ◌<◌, ℕ, List, Option, Some, None, true, false}
use Rattle.std.specs.List.{AllByRecursion}
use Rattle.wse_path.specs.Path.{Path}
use Rattle.wse_path.specs.Tree.{Entries, IsTree}
use Rattle.wse_path.specs.Limits.{standard}
use Rattle.wse_path.specs.declared.change.Numbered.{Numbered}
use Rattle.wse_path.specs.declared.command.Choice.{Choice}
use Rattle.wse_path.specs.declared.command.Command.{Command}
use Rattle.wse_path.specs.declared.command.Command.TheVariants as commands
use Rattle.wse_path.specs.declared.command.Direction.{Direction}
use Rattle.wse_path.specs.declared.limits.Limits.{Limits}
use Rattle.wse_element.specs.Numbers.{is_known_bounded}
use Rattle.wse_element.specs.Linked.{IsStateLinked}
use Rattle.wse_element.specs.Record.{Record}
use Rattle.wse_path.specs.Versions.{version_of}
use Rattle.wse_path.specs.declared.command.Direction.TheVariants.{Back, Forward}
use Rattle.wse_locks.specs.Locks.{is_held}
use Rattle.wse_element.specs.Live.{is_live_at}
use Rattle.wse_element.specs.Stacks.{record_of, live_at}
use Rattle.wse_rules.specs.Ruling.{all_paths}
use Rattle.wse_history.specs.Outcome.{numbered}
use Rattle.wse_element.specs.State.{State}
use Rattle.wse_apply.specs.Limit.{are_within, limit_hit}
use Rattle.wse_history.specs.declared.answer.SplitNote.{SplitNote}
use Rattle.wse_history.specs.declared.answer.MoveEnd.TheVariants as ends
use Rattle.wse_history.specs.declared.answer.Answer.TheVariants.{Move}
use Rattle.wse_history.specs.Moves.{move_outcome}
use Rattle.wse_history.specs.Step.{step}
use Rattle.wse_lives.specs.Lives.{Comes, AgreesAt, trees_of}
use Rattle.wse_lives.specs.Events.{Event, fresh}
use Rattle.wse_history.specs.History.{IsHistory}
use Rattle.wse_lives.specs.Adopt.{adopted}
use Rattle.wse_lives.specs.Returns.{Returns, moved_among}
use Rattle.wse_lives.specs.After.{left_after, life_of, PassesNone, IsLived}

-- A command leaves a sound state, and the records that it pushes say what it did.
abbrev pub CommandsKeep : Type 0
CommandsKeep = (limits : Limits) (s : State) (command : Command) → IsHistory s limits → IsHistory (step limits s command) limits × Comes s (step limits s command)

-- Adopting a tree leaves a sound state, and pushes nothing.
abbrev pub AdoptingKeeps : Type 0
AdoptingKeeps = (limits : Limits) (s : State) (files : Entries) → IsHistory s limits → IsTree files → limit_hit limits files ≡ None → PassesNone limits (adopted (record s { files = files }))
    → IsHistory (adopted (record s { files = files })) limits × Comes s (adopted (record s { files = files }))

-- A state of a life is linked and within the limits' bounds, and each live part has as its old and its new content what its
-- path had before and after the event that made its record's origin.
pub record IsTrueLife (limits : Limits) (start : State) (events : List Event) : Type 0 where
  pub sound : IsHistory (left_after limits start events) limits
  pub agree : (p : Path) → AllByRecursion (AgreesAt start (life_of limits start events) p) (live_at (left_after limits start events).records p)

abbrev pub LivesAreTrue : Type 0
LivesAreTrue = (limits : Limits) (start : State) (events : List Event) → IsHistory start limits → IsLived limits start events → IsTrueLife limits start events

abbrev pub LivesFromAdopting : Type 0
LivesFromAdopting = AdoptingKeeps → LivesAreTrue

-- A new history over a tree is sound.
abbrev pub FreshIsSound : Type 0
FreshIsSound = (limits : Limits) (files : Entries) → are_within limits standard ≡ true → IsTree files → limit_hit limits files ≡ None → is_known_bounded (fresh files).versions ≡ true → IsHistory (fresh files) limits

-- The law of lives: the state is linked, and its records agree with the trees of the life.
abbrev pub LinkedOverLives : Type 0
LinkedOverLives = (limits : Limits) (files : Entries) (events : List Event) → are_within limits standard ≡ true → IsTree files → limit_hit limits files ≡ None → is_known_bounded (fresh files).versions ≡ true
    → IsLived limits (fresh files) events
    → IsStateLinked (left_after limits (fresh files) events)
    × ((p : Path) → AllByRecursion (AgreesAt (fresh files) (life_of limits (fresh files) events) p) (live_at (left_after limits (fresh files) events).records p))

-- The law of undo and redo: one that is answered with Done found the tree as the record's command left it (as the command
-- found it, where it is a redo), leaves it as the command found it (left it), and leaves every other path.
pub record GaveBack (limits : Limits) (start : State) (events : List Event) (direction : Direction) (next : State) (id : ℕ) : Type 0 where
  pub moved : Record
  pub same : moved.id ≡ id
  pub trees : Entries × Entries
  pub came : trees_of start (life_of limits start events) moved.origin ≡ Some trees
  pub each : (p : Path) → Returns direction trees (left_after limits start events).files next.files moved p

abbrev pub UndoOverLives : Type 0
UndoOverLives = (limits : Limits) (files : Entries) (events : List Event) → are_within limits standard ≡ true → IsTree files → limit_hit limits files ≡ None → is_known_bounded (fresh files).versions ≡ true
    → IsLived limits (fresh files) events
    → (by : ℕ) (direction : Direction) (path : Path) (choice : Choice) (note : Option SplitNote) (id : ℕ) (versions : List Numbered)
    → (move_outcome limits (left_after limits (fresh files) events) by direction path choice).answer ≡ Move note (ends.Done id versions)
    → GaveBack limits (fresh files) events direction (step limits (left_after limits (fresh files) events) (commands.Move by direction path choice)) id

-- A redo is done, gives the tree of before the undo, the records of just before the record was moved, and versions two higher
-- at the record's paths and as they were elsewhere.
pub record GivesAgain (limits : Limits) (s next : State) (by : ℕ) (path : Path) (choice : Choice) (before : List Record) (r : Record) : Type 0 where
  pub answer : (move_outcome limits next by Forward path choice).answer ≡ Move None (ends.Done r.id (numbered (step limits next (commands.Move by Forward path choice)) (all_paths r)))
  pub files : (step limits next (commands.Move by Forward path choice)).files ≡ s.files
  pub records : (step limits next (commands.Move by Forward path choice)).records ≡ before
  pub raised : (p : Path) → is_live_at p r ≡ true → version_of (step limits next (commands.Move by Forward path choice)).versions p ≡ version_of s.versions p + 2
  pub kept : (p : Path) → is_live_at p r ≡ false → version_of (step limits next (commands.Move by Forward path choice)).versions p ≡ version_of s.versions p

-- After an undo that is done, a redo at any path of the record, by anyone for whom no path of it is held by somebody else, gives
-- back what was there, where the serial number is below its limit.
abbrev pub RedoNext : Type 0
RedoNext = (limits : Limits) (s : State) → IsHistory s limits → (by : ℕ) (path : Path) (choice : Choice) (note : Option SplitNote) (id : ℕ) (versions : List Numbered)
    → (move_outcome limits s by Back path choice).answer ≡ Move note (ends.Done id versions)
    → (r : Record) → record_of (moved_among s note) id ≡ Some r
    → (again_by : ℕ) (at : Path) (again_choice : Choice) → is_live_at at r ≡ true
    → ((p : Path) → is_live_at p r ≡ true → is_held (step limits s (commands.Move by Back path choice)).locks again_by p ≡ false)
    → (step limits s (commands.Move by Back path choice)).serial < limits.serial
    → GivesAgain limits s (step limits s (commands.Move by Back path choice)) again_by at again_choice (moved_among s note) r
