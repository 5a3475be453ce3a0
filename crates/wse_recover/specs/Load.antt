-- How the tree of a disk is loaded.
use Rattle.std.specs.Prelude.{◌≡◌, ◌&&◌, Option, if◌then◌else◌}
use Rattle.wse_path.specs.Path.{Path}
use Rattle.wse_path.specs.Tree.{Entries, content, is_present, fits, put_file}
use Rattle.wse_disk.specs.Standing.{Standing}
use Rattle.wse_disk.specs.Told.{WhereTold}
use Rattle.wse_disk.specs.Calls.{bytes_or_none}

-- The files with the one of the disk at the path, where it is there and they have room for it.
abbrev pub with_file : (on_disk files : Entries) → Path → Entries
with_file on_disk files p = if is_present on_disk p && fits files p then put_file files p (bytes_or_none (content on_disk p)) else files

-- The file that is read at the path is put to the others, where it is there and they have room for it.
abbrev pub LoadsFile : Option Standing → Path → (before after : Entries) → Type 0
LoadsFile told p before after = WhereTold told (λ s. after ≡ with_file s.reading.files before p)
