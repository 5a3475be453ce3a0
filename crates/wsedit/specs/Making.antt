-- How the making of a store goes. This project's own rule.
use Rattle.std.specs.Prelude.{◌≡◌, ◌≤◌, ⊤, Option, Some, None}
use Rattle.wse_path.specs.declared.limits.Limits.{Limits}
use Rattle.wse_disk.specs.Standing.{Standing}
use Rattle.wse_disk.specs.Told.{IsAtRest}
use Rattle.wse_stream.specs.Scene.{Scene}
use Rattle.wse_recover.specs.Init.{HasMade}
use Rattle.wse_recover.specs.Measure.{TellsHit}
use Rattle.wse_recover.specs.Untouched.{IsUntouched}
use Rattle.wse_run.specs.declared.end.RunEnd.{RunEnd}
use Rattle.wse_run.specs.declared.end.RunEnd.TheVariants.{Done, Read, Write, Disk, Memory, NotAStore, TooBig, InputLimit, Differs}

-- By how it ended: the store is made over the tree, which passes no limit, and nothing is pending; or the tree passes the limit,
-- and nothing was written; or the disk failed; or there was no memory, and nothing was written.
abbrev pub HasMadeOr : Limits → (old new : Option Standing) → RunEnd → Type 0
HasMadeOr limits old new Done = HasMade old new × IsAtRest new × TellsHit old limits None
HasMadeOr limits old new Read = ⊥
HasMadeOr limits old new Write = ⊥
HasMadeOr limits old new Disk = ⊤
HasMadeOr limits old new Memory = IsUntouched old new
HasMadeOr limits old new (NotAStore at) = ⊥
HasMadeOr limits old new (TooBig hit) = TellsHit old limits (Some hit) × IsUntouched old new
HasMadeOr limits old new (InputLimit limit) = ⊥
HasMadeOr limits old new (Differs p) = ⊥

-- The source and the sink are as they were, and the disk is as the end says.
pub record MakesStore (limits : Limits) (before now : Scene) (end : RunEnd) : Type 0 where
  pub source : now.left ≡ before.left
  pub sink : now.pieces ≡ before.pieces
  pub later : before.disk.moment ≤ now.disk.moment
  pub made : HasMadeOr limits before.disk.told now.disk.told end
