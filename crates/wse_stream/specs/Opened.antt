-- What a whole run over a store says that was opened first.
use Rattle.std.specs.Prelude.{◌≡◌, ◌⊎◌, ℕ, ◌+◌, ◌≤◌, Bool, true, false, List, [], length, IfSome}
use Rattle.wse_disk.specs.Reading.{Reading}
use Rattle.wse_disk.specs.Told.{WhereTold, LeftSince, MayLeave, IsTold}
use Rattle.wse_io.specs.Stream.{Piece, Adds, Takes, IsPrefix, bytes_of, Within}
use Rattle.wse_stream.specs.Emitted.{emitted_by}
use Rattle.wse_stream.specs.Machine.{Machine, transcript, state_after}
use Rattle.wse_stream.specs.Rests.{Rests}
use Rattle.wse_stream.specs.Run.{HoldsFront}
use Rattle.wse_stream.specs.Runs.{Ending, lines_of}
use Rattle.wse_stream.specs.Scene.{DiskAt, Scene}

-- What a crash might have left at the start, or what stands for the state for which the disk was opened.
pub data IsEarlier {S : Type 0} (m : Machine S) (opened : S) (start : DiskAt) (image : Reading) : Type 0 where
  AtStart : MayLeave start.told image → IsEarlier m opened start image
  AsOpened : m.stands opened image → IsEarlier m opened start image

-- A run that opened the disk first: what is read at the start stands for the state `opened`, and the first line comes in the
-- state `first`.
pub record RunsFrom {S : Type 0} (m : Machine S) (opened first : S) (max_input : ℕ) (before now : Scene) (ending : Ending) : Type 0 where
  pub is_opened : WhereTold before.disk.told (λ d. m.stands opened d.reading)
  -- The bytes that were taken, whether the input is over, and the pieces that were emitted.
  pub taken : List ℕ
  pub over : Bool
  pub added : List Piece
  pub takes : Takes before.left now.left taken
  pub is_over : over ≡ true → IfSome now.left (λ rest. rest ≡ [])
  pub adds : Adds before.pieces now.pieces added
  pub later : before.disk.moment ≤ now.disk.moment
  -- They are a front of the answers, each at a moment of the run.
  pub output : IsPrefix (bytes_of added) (transcript m 1 first (lines_of max_input taken over))
  pub times : Within before.disk.moment now.disk.moment added
  pub done : ending.done ≡ true → (length taken ≤ max_input) × (over ≡ true)
      × (bytes_of added ≡ transcript m 1 first (lines_of max_input taken over))
      × Rests now.disk.told (m.stands (state_after m first (lines_of max_input taken over)))
  pub read : ending.read ≡ true → (length taken ≤ max_input) × (over ≡ false)
      × (bytes_of added ≡ transcript m 1 first (lines_of max_input taken over))
  pub passed : ending.passed ≡ true → (length taken ≡ max_input + 1) × (over ≡ false)
      × (bytes_of added ≡ transcript m 1 first (lines_of max_input taken over))
  pub only_passed : length taken ≡ max_input + 1
      → (ending.passed ≡ true) ⊎ (ending.write ≡ true) ⊎ (ending.disk ≡ true) ⊎ (ending.memory ≡ true)
  pub never_more : length taken ≤ max_input + 1
  -- Where the disk tells: what a crash at some moment of the run leaves holds a front of the lines to which all that was out
  -- by then are answers. Before the first piece it may also be what a crash might have left at the start, or stand for the opened state.
  pub moments : IsTold before.disk.told → (moment : ℕ) (image : Reading) → before.disk.moment ≤ moment → LeftSince now.disk.told moment image
      → HoldsFront m 1 first (lines_of max_input taken over) (emitted_by moment added) image
      ⊎ ((emitted_by moment added ≡ []) × IsEarlier m opened before.disk image)

-- No line was read: the source and the sink are as they were. What a crash may leave since the start is what it might have left
-- then, or stands for the state for which what is read stands, or for that which adopting makes of it.
pub record Unread {S : Type 0} (m : Machine S) (adopted : S → S) (before now : Scene) : Type 0 where
  pub source : now.left ≡ before.left
  pub sink : now.pieces ≡ before.pieces
  pub later : before.disk.moment ≤ now.disk.moment
  pub images : IsTold before.disk.told → (s : S) → WhereTold before.disk.told (λ d. m.stands s d.reading)
      → (moment : ℕ) (image : Reading) → before.disk.moment ≤ moment → LeftSince now.disk.told moment image
      → IsEarlier m s before.disk image ⊎ m.stands (adopted s) image
