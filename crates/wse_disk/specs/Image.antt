-- What a crash may leave of a disk.
use Rattle.std.specs.Prelude.{◌≡◌, ◌≢◌, ◌⊎◌, ℕ, ◌+◌, ◌<◌, ◌≤◌, max, false, List, length, get_or}
use Rattle.std.specs.List.{list_any}
use Rattle.wse_path.specs.Path.{Path}
use Rattle.wse_path.specs.Tree.{content, IsTree}
use Rattle.wse_disk.specs.declared.area.Area.{Area}
use Rattle.wse_disk.specs.Reading.{Reading, Write, Stores, Erases, Patches, area_of, is_same_area, names, is_in, covers}

-- An area after a crash. Where no write was of it, it is as it was. Else it is no shorter, and has the old byte at each old
-- place that no write covered; all its other places, and its length, are free.
pub record IsAreaImage (a : Area) (writes : List Write) (base image : List ℕ) : Type 0 where
  pub same : list_any (is_in a) writes ≡ false → image ≡ base
  pub no_shorter : length base ≤ length image
  pub kept : (i : ℕ) → i < length base → list_any (covers a i) writes ≡ false → get_or image i 0 ≡ get_or base i 0

-- What a crash may leave of a disk that was synced at `base` and written so since then. At a path that no write names the
-- content is the old one; at the others there are any bytes, or nothing. It is a tree.
pub record IsImage (base : Reading) (writes : List Write) (image : Reading) : Type 0 where
  pub tree : IsTree image.files
  pub kept : (p : Path) → list_any (names p) writes ≡ false → content image.files p ≡ content base.files p
  pub areas : (a : Area) → IsAreaImage a writes (area_of a base) (area_of a image)

-- The path differs at most, and a tree is left.
pub record DiffersAt (p : Path) (old new : Reading) : Type 0 where
  pub tree : IsTree new.files
  pub others : (q : Path) → q ≢ p → content new.files q ≡ content old.files q
  pub areas : (a : Area) → area_of a new ≡ area_of a old

-- Of the area the `count` places from `place` on differ at most, and what is behind its old end.
pub record IsTorn (a : Area) (place count : ℕ) (old new : Reading) : Type 0 where
  pub files : new.files ≡ old.files
  pub others : (b : Area) → is_same_area b a ≡ false → area_of b new ≡ area_of b old
  pub no_shorter : length (area_of a old) ≤ length (area_of a new)
  pub kept : (i : ℕ) → i < length (area_of a old) → (i < place) ⊎ (place + count ≤ i) → get_or (area_of a new) i 0 ≡ get_or (area_of a old) i 0

-- Of the area these places differ at most, those behind its old end among them.
pub record DiffersWithin (a : Area) (place count : ℕ) (old new : Reading) : Type 0 where
  pub torn : IsTorn a place count old new
  pub no_longer : length (area_of a new) ≤ max (length (area_of a old)) (place + count)

-- What may be read after a write that failed: it changed at most what it names.
abbrev pub DiffersBy : Write → Reading → Reading → Type 0
DiffersBy (Stores p bytes) old new = DiffersAt p old new
DiffersBy (Erases p) old new = DiffersAt p old new
DiffersBy (Patches a place bytes) old new = DiffersWithin a place (length bytes) old new
