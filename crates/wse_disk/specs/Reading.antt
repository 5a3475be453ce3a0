-- What a disk holds, and what a write does to it.
use Rattle.std.specs.Prelude.{ℕ, ◌+◌, Bool, true, false, ◌&&◌, nat_le, nat_lt, List, [], ◌++◌, length, take, drop}
use Rattle.std.specs.Ordering.{eq_by_cmp}
use Rattle.wse_path.specs.Order.{path_cmp}
use Rattle.wse_path.specs.Path.{Path}
use Rattle.wse_path.specs.Tree.{Entries, put_file, remove_file}
use Rattle.wse_disk.specs.declared.area.Area.{Area}
use Rattle.wse_disk.specs.declared.area.Area.TheVariants.{Switch, LogA, LogB}

-- What is read: the files in path order, and the bytes of the three areas.
pub record Reading : Type 0 where
  pub files : Entries
  pub switch : List ℕ
  pub log_a : List ℕ
  pub log_b : List ℕ

-- A disk that holds nothing.
abbrev pub nothing_read : Reading
nothing_read = record { files = []; switch = []; log_a = []; log_b = [] }

-- The bytes of the area.
abbrev pub area_of : Area → Reading → List ℕ
area_of Switch r = r.switch
area_of LogA r = r.log_a
area_of LogB r = r.log_b

-- The reading with these bytes in the area.
abbrev pub with_area : Area → List ℕ → Reading → Reading
with_area Switch bytes r = record r { switch = bytes }
with_area LogA bytes r = record r { log_a = bytes }
with_area LogB bytes r = record r { log_b = bytes }

-- The reading with these files.
abbrev pub with_files : Entries → Reading → Reading
with_files files r = record r { files = files }

abbrev pub is_same_area : Area → Area → Bool
is_same_area Switch Switch = true
is_same_area Switch LogA = false
is_same_area Switch LogB = false
is_same_area LogA Switch = false
is_same_area LogA LogA = true
is_same_area LogA LogB = false
is_same_area LogB Switch = false
is_same_area LogB LogA = false
is_same_area LogB LogB = true

-- A store, an erase, or a write of bytes into an area from a place on.
pub data Write : Type 0 where
  Stores : (path : Path) (bytes : List ℕ) → Write
  Erases : (path : Path) → Write
  Patches : (area : Area) (place : ℕ) (bytes : List ℕ) → Write

-- Bytes with these at a place that isn't behind their end.
abbrev pub patched : ℕ → List ℕ → List ℕ → List ℕ
patched place bytes old = take place old ++ bytes ++ drop (place + length bytes) old

-- What is read after a write that was done whole.
abbrev pub applied : Write → Reading → Reading
applied (Stores p bytes) r = record r { files = put_file r.files p bytes }
applied (Erases p) r = record r { files = remove_file r.files p }
applied (Patches a place bytes) r = with_area a (patched place bytes (area_of a r)) r

-- The write stores or erases the path.
abbrev pub names : Path → Write → Bool
names p (Stores q bytes) = eq_by_cmp path_cmp p q
names p (Erases q) = eq_by_cmp path_cmp p q
names p (Patches a place bytes) = false

-- The write is of the area.
abbrev pub is_in : Area → Write → Bool
is_in a (Stores q bytes) = false
is_in a (Erases q) = false
is_in a (Patches b place bytes) = is_same_area a b

-- The write covers this place of the area.
abbrev pub covers : Area → ℕ → Write → Bool
covers a i (Stores q bytes) = false
covers a i (Erases q) = false
covers a i (Patches b place bytes) = is_same_area a b && (nat_le place i && nat_lt i (place + length bytes))
