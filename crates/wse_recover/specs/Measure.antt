-- What sizes tell of the tree of a disk.
use Rattle.std.specs.Prelude.{◌≡◌, ℕ, length, Option}
use Rattle.std.specs.Option.{option_map_or}
use Rattle.wse_path.specs.Path.{Path}
use Rattle.wse_path.specs.Tree.{content}
use Rattle.wse_path.specs.declared.limits.Limits.{Limits}
use Rattle.wse_path.specs.declared.limits.Hit.{Hit}
use Rattle.wse_disk.specs.Standing.{Standing}
use Rattle.wse_disk.specs.Told.{WhereTold}
use Rattle.wse_recover.specs.Start.{start_hit}

-- So many bytes the file has, and none where there is no file.
abbrev pub ReadsBytes : Option Standing → Path → ℕ → Type 0
ReadsBytes told p count = WhereTold told (λ s. count ≡ option_map_or (λ bytes. length bytes) (content s.reading.files p) 0)

-- The first limit that the tree passes, or none.
abbrev pub TellsHit : Option Standing → Limits → Option Hit → Type 0
TellsHit told limits hit = WhereTold told (λ s. start_hit limits s.reading.files ≡ hit)
