-- The words on what is told, of a disk that tells.
use Rattle.std.proofs.Common.{Option, Some, None}
use Rattle.std.specs.Prelude.{Result}
use Rattle.wse_path.specs.Tree.{IsTree}
use Rattle.wse_disk.specs.Reading.{Write}
use Rattle.wse_disk.specs.Standing.{Standing, WriteLeaves, SyncLeaves}
use Rattle.wse_disk.specs.Told.{WhereTold, IsTold, standing_of, ReadsAnImage}
use Rattle.wse_disk.specs.Calls.{Told, TellsWrite, TellsSync}

pub where_at : (told : Option Standing) (P : Standing → Type 0) → IsTold told → WhereTold told P → P (standing_of told)
where_at None P is h = absurd is
where_at (Some s) P is h = h

pub to_where : (told : Option Standing) (P : Standing → Type 0) → (IsTold told → P (standing_of told)) → WhereTold told P
to_where None P h = tt
to_where (Some s) P h = h tt

pub told_at : (R : Standing → Standing → Type 0) (old new : Option Standing) → IsTold old → Told R old new → R (standing_of old) (standing_of new)
told_at R None new is h = absurd is
told_at R (Some s) None is h = absurd h
told_at R (Some s) (Some t) is h = h

pub wrote_at : {T E : Type 0} (w : Write) (old new : Option Standing) (result : Result T E) → IsTold old → TellsWrite w old new result → WriteLeaves w result (standing_of old) (standing_of new)
wrote_at w old new result is h = told_at (WriteLeaves w result) old new is h

pub synced_at : {T E : Type 0} (old new : Option Standing) (result : Result T E) → IsTold old → TellsSync old new result → SyncLeaves result (standing_of old) (standing_of new)
synced_at old new result is h = told_at (SyncLeaves result) old new is h

-- What is read is a tree.
pub tree_read : (told : Option Standing) → IsTold told → ReadsAnImage told → IsTree (standing_of told).reading.files
tree_read None is h = absurd is
tree_read (Some s) is h = h.tree
