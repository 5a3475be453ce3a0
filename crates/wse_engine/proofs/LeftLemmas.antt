-- What a crash leaves where no call of the disk is made.
use Rattle.std.proofs.Common.{inl, inr, List, length, Option, Some, None, sym, subst, arith}
use Rattle.std.proofs.lemmas.List.{drop_all}
use Rattle.wse_disk.specs.Reading.{Reading}
use Rattle.wse_disk.specs.Standing.{Pending, Standing, IsOfOne}
use Rattle.wse_disk.specs.Told.{MayLeave, LeftSince, IsAtRest, moment_told, reading_of}
use Rattle.wse_disk.specs.LeavesOnly.{LeavesOnly}

-- Since this moment there is no other.
now_only : (told : Option Standing) (image : Reading) → LeftSince told (moment_told told) image → MayLeave told image
now_only None image left = absurd left
now_only (Some s) image (inl now) = now
now_only (Some s) image (inr before) = absurd (subst (λ (ps : List Pending). IsOfOne ps image) (drop_all (length s.past) s.past (omega arith)) before)

pub only_reading : (told : Option Standing) (P : Reading → Type 0) → IsAtRest told → P (reading_of told) → LeavesOnly told told P
only_reading told P rests has = record {
  later = omega arith;
  each = λ image left. subst P (sym (rests image (now_only told image left))) has;
  before = λ moment image le left. inl left;
}
