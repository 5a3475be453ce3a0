-- A run of a machine over lines: what was emitted, and what a crash may leave.
use Rattle.std.specs.Prelude.{◌⊎◌, ℕ, ◌≤◌, List, length, take}
use Rattle.wse_disk.specs.Reading.{Reading}
use Rattle.wse_disk.specs.Told.{LeftSince, IsTold}
use Rattle.wse_io.specs.Stream.{Piece, IsPrefix, bytes_of, Within}
use Rattle.wse_stream.specs.Emitted.{emitted_by}
use Rattle.wse_stream.specs.Machine.{Machine, transcript, state_after}
use Rattle.wse_stream.specs.Scene.{DiskAt}

-- The image stands for the state after a front of the lines.
pub record StandsWithin {S : Type 0} (m : Machine S) (s : S) (ls : List (List ℕ)) (image : Reading) : Type 0 where
  pub front : ℕ
  pub within : front ≤ length ls
  pub stands : m.stands (state_after m s (take front ls)) image

-- The image stands for the state after a front of the lines, and what was out are answers to this front.
pub record HoldsFront {S : Type 0} (m : Machine S) (n : ℕ) (s : S) (ls : List (List ℕ)) (out : List ℕ) (image : Reading) : Type 0 where
  pub front : ℕ
  pub within : front ≤ length ls
  pub stands : m.stands (state_after m s (take front ls)) image
  pub answered : IsPrefix out (transcript m n s (take front ls))

-- A run from one moment of a disk to another, over lines from number n on.
pub record Ran {S : Type 0} (m : Machine S) (before now : DiskAt) (n : ℕ) (s : S) (ls : List (List ℕ)) (added : List Piece) : Type 0 where
  pub later : before.moment ≤ now.moment
  -- What is emitted is a front of the answers.
  pub output : IsPrefix (bytes_of added) (transcript m n s ls)
  pub times : Within before.moment now.moment added
  -- Where the disk tells: what a crash at some moment of the run leaves holds a front of the lines to which all that was out
  -- by then are answers.
  pub since : IsTold before.told → (moment : ℕ) (image : Reading) → before.moment ≤ moment → LeftSince now.told moment image → HoldsFront m n s ls (emitted_by moment added) image
  -- For a run that began earlier: nothing else is added to what a crash may have left.
  pub earlier : IsTold before.told → (moment : ℕ) (image : Reading) → moment ≤ before.moment → LeftSince now.told moment image → LeftSince before.told moment image ⊎ StandsWithin m s ls image
