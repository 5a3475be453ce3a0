-- How the showing of a store goes. This project's own rule.
use Rattle.std.specs.Prelude.{◌≡◌, ◌⊎◌, ◌≤◌, ℕ, false, List, Option, None}
use Rattle.wse_path.specs.declared.limits.Limits.{Limits}
use Rattle.wse_apply.specs.Limit.{limit_hit}
use Rattle.wse_element.specs.Linked.{IsStateLinked}
use Rattle.wse_element.specs.State.{State}
use Rattle.wse_disk.specs.Reading.{Reading}
use Rattle.wse_disk.specs.Standing.{Standing}
use Rattle.wse_disk.specs.Told.{WhereTold, MayLeave, LeftSince, IsTold}
use Rattle.wse_io.specs.Stream.{Piece, Adds, IsPrefix, Within, bytes_of}
use Rattle.wse_txn.specs.Stands.{StandsFor}
use Rattle.wse_stream.specs.Rests.{Rests}
use Rattle.wse_stream.specs.Scene.{DiskAt, Scene}
use Rattle.wse_show.specs.Show.{show_text}
use Rattle.wse_run.specs.Refusal.{IsRefusal}
use Rattle.wse_run.specs.declared.end.RunEnd.{RunEnd}
use Rattle.wse_run.specs.declared.end.RunEnd.TheVariants.{Done, Read, Write, Disk, Memory, NotAStore, TooBig, InputLimit, Differs}

-- A front of the text came out, between these moments.
pub record Emits (text : List ℕ) (first last : ℕ) (old new : Option (List Piece)) : Type 0 where
  pub added : List Piece
  pub adds : Adds old new added
  pub times : Within first last added
  pub front : IsPrefix (bytes_of added) text

-- All of it came out.
abbrev pub EmitsAll : (text : List ℕ) (first last : ℕ) (old new : Option (List Piece)) → Type 0
EmitsAll text first last old new = (e : Emits text first last old new) × (bytes_of e.added ≡ text)

-- By how it ended: the text came out; or a front of it; or nothing, for want of memory.
abbrev pub HasEmittedOr : (text : List ℕ) (first last : ℕ) (old new : Option (List Piece)) → RunEnd → Type 0
HasEmittedOr text first last old new Done = EmitsAll text first last old new
HasEmittedOr text first last old new Read = ⊥
HasEmittedOr text first last old new Write = Emits text first last old new
HasEmittedOr text first last old new Disk = ⊥
HasEmittedOr text first last old new Memory = new ≡ old
HasEmittedOr text first last old new (NotAStore at) = ⊥
HasEmittedOr text first last old new (TooBig hit) = ⊥
HasEmittedOr text first last old new (InputLimit limit) = ⊥
HasEmittedOr text first last old new (Differs p) = ⊥

-- The store was opened: what was read stood for the state, and does so still, and nothing is pending. The state is linked, and
-- its tree passes no limit.
pub record Opens (limits : Limits) (old new : Option Standing) (s : State) : Type 0 where
  pub stood : WhereTold old (λ d. StandsFor s d.reading)
  pub linked : IsStateLinked s
  pub fits : limit_hit limits s.files ≡ None
  pub rests : Rests new (StandsFor s)

-- By how it ended: what the store holds is all out; or a front of it; or nothing is out, since the disk failed, there was no
-- memory, or the store was refused without adopting, for just this cause.
abbrev pub HasShownOr : Limits → (old new : DiskAt) → (pieces pieces' : Option (List Piece)) → RunEnd → Type 0
HasShownOr limits old new pieces pieces' Done =
    (s : State) × Opens limits old.told new.told s × EmitsAll (show_text s) old.moment new.moment pieces pieces'
HasShownOr limits old new pieces pieces' Read = ⊥
HasShownOr limits old new pieces pieces' Write =
    (s : State) × Opens limits old.told new.told s × Emits (show_text s) old.moment new.moment pieces pieces'
HasShownOr limits old new pieces pieces' Disk = pieces' ≡ pieces
HasShownOr limits old new pieces pieces' Memory = pieces' ≡ pieces
HasShownOr limits old new pieces pieces' (NotAStore at) = (pieces' ≡ pieces) × IsRefusal false limits old.told new.told (NotAStore at)
HasShownOr limits old new pieces pieces' (TooBig hit) = (pieces' ≡ pieces) × IsRefusal false limits old.told new.told (TooBig hit)
HasShownOr limits old new pieces pieces' (InputLimit limit) = ⊥
HasShownOr limits old new pieces pieces' (Differs p) = (pieces' ≡ pieces) × IsRefusal false limits old.told new.told (Differs p)

-- A crash at any moment since the start leaves what a crash at the start might have left, or what stands for the state for which
-- what was read stood.
abbrev pub LeavesShown : (old new : DiskAt) → Type 0
LeavesShown old new =
    IsTold old.told → (s : State) → WhereTold old.told (λ d. StandsFor s d.reading)
    → (moment : ℕ) (image : Reading) → old.moment ≤ moment → LeftSince new.told moment image
    → MayLeave old.told image ⊎ StandsFor s image

-- The disk goes from the one to the other, these pieces come out, and it ends so.
pub record Shows (limits : Limits) (old new : DiskAt) (pieces pieces' : Option (List Piece)) (end : RunEnd) : Type 0 where
  pub later : old.moment ≤ new.moment
  pub images : LeavesShown old new
  pub shown : HasShownOr limits old new pieces pieces' end

-- The source is as it was, and the disk and the sink are as the end says.
pub record ShowsStore (limits : Limits) (before now : Scene) (end : RunEnd) : Type 0 where
  pub source : now.left ≡ before.left
  pub shows : Shows limits before.disk now.disk before.pieces now.pieces end
