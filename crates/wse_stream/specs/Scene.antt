-- What stands around a run at one time.
use Rattle.std.specs.Prelude.{ℕ, Option, List}
use Rattle.wse_disk.specs.Standing.{Standing}
use Rattle.wse_io.specs.Stream.{Piece}

-- A disk at one of its moments, and what it tells then.
pub record DiskAt : Type 0 where
  pub moment : ℕ
  pub told : Option Standing

abbrev pub disk_at : {D : Type 0} → (D → ℕ) → (D → Option Standing) → D → DiskAt
disk_at moment_of told disk = record { moment = moment_of disk; told = told disk }

-- The bytes that the source has left and the pieces that came to the sink, where they are told, and the disk.
pub record Scene : Type 0 where
  pub left : Option (List ℕ)
  pub pieces : Option (List Piece)
  pub disk : DiskAt

abbrev pub scene : Option (List ℕ) → Option (List Piece) → DiskAt → Scene
scene left pieces disk = record { left = left; pieces = pieces; disk = disk }

-- How often the source, the sink and the disk failed so far.
pub record Faults : Type 0 where
  pub source : ℕ
  pub sink : ℕ
  pub disk : ℕ

abbrev pub faults : (source sink disk : ℕ) → Faults
faults source sink disk = record { source = source; sink = sink; disk = disk }
