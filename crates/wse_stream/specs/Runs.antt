-- What a whole run over a stream says.
use Rattle.std.specs.Prelude.{◌≡◌, ◌⊎◌, ℕ, ◌+◌, ◌≤◌, Bool, true, false, List, [], length, take, IfSome}
use Rattle.wse_io.specs.Stream.{Piece, Adds, Takes, bytes_of}
use Rattle.wse_io.specs.Lines.{lines}
use Rattle.wse_stream.specs.Machine.{Machine, transcript, state_after}
use Rattle.wse_stream.specs.Rests.{Rests}
use Rattle.wse_stream.specs.Run.{Ran}
use Rattle.wse_stream.specs.Scene.{Scene, Faults}
use Rattle.wse_stream.specs.Causes.{CountsFault}

-- How a run ended, as far as its record looks at that.
pub record Ending : Type 0 where
  -- The source was read to its end, and every line was answered.
  pub done : Bool
  -- The source, the sink or the disk failed.
  pub read : Bool
  pub write : Bool
  pub disk : Bool
  -- There was no memory.
  pub memory : Bool
  -- The source gave one byte past the most that are read.
  pub passed : Bool

-- None of these.
abbrev pub otherwise : Ending
otherwise = record { done = false; read = false; write = false; disk = false; memory = false; passed = false }

-- How the counts of faults went: only that of what failed rose.
pub record HasCauses (ending : Ending) (before now : Faults) : Type 0 where
  pub source : CountsFault ending.read before.source now.source
  pub sink : CountsFault ending.write before.sink now.sink
  pub disk : CountsFault ending.disk before.disk now.disk

-- The lines of the first `max_input` bytes of those that were taken.
abbrev pub lines_of : (max_input : ℕ) (taken : List ℕ) (over : Bool) → List (List ℕ)
lines_of max_input taken over = lines (take max_input taken) over

-- A run over a stream, of which at most so many bytes are read as lines, from a state before the first line.
pub record Runs {S : Type 0} (m : Machine S) (s : S) (max_input : ℕ) (before now : Scene) (ending : Ending) : Type 0 where
  -- The bytes that were taken, whether the input is over, and the pieces that were emitted.
  pub taken : List ℕ
  pub over : Bool
  pub added : List Piece
  -- These bytes left the source, and where the input is over none is left. These pieces came to the sink.
  pub takes : Takes before.left now.left taken
  pub is_over : over ≡ true → IfSome now.left (λ rest. rest ≡ [])
  pub adds : Adds before.pieces now.pieces added
  -- What is out, when, and what a crash may leave.
  pub ran : Ran m before.disk now.disk 1 s (lines_of max_input taken over) added
  -- Where all was done the input was read to its end, all is answered, nothing is pending, and what is read stands for the
  -- last state.
  pub done : ending.done ≡ true → (length taken ≤ max_input) × (over ≡ true)
      × (bytes_of added ≡ transcript m 1 s (lines_of max_input taken over))
      × Rests now.disk.told (m.stands (state_after m s (lines_of max_input taken over)))
  -- Where the source failed the whole lines before the fault are answered.
  pub read : ending.read ≡ true → (length taken ≤ max_input) × (over ≡ false)
      × (bytes_of added ≡ transcript m 1 s (lines_of max_input taken over))
  -- Where one byte past the most was taken the whole lines before it are answered.
  pub passed : ending.passed ≡ true → (length taken ≡ max_input + 1) × (over ≡ false)
      × (bytes_of added ≡ transcript m 1 s (lines_of max_input taken over))
  -- Where it was taken, that is how the run ended, if no line ended it.
  pub only_passed : length taken ≡ max_input + 1
      → (ending.passed ≡ true) ⊎ (ending.write ≡ true) ⊎ (ending.disk ≡ true) ⊎ (ending.memory ≡ true)
  pub never_more : length taken ≤ max_input + 1
