-- Trees: finite maps from paths to bytes in which no path is under another.
use Rattle.std.specs.Prelude.{◌≡◌, ◌⊎◌, ℕ, ◌-◌, ◌^◌, min, Bool, true, false, not, ◌||◌, List, [], ◌∷◌, length, map, sum_by, Option, option_map, is_some}
use Rattle.std.specs.Prelude.{find as find_entry}
use Rattle.std.specs.List.{list_any}
use Rattle.std.specs.FinMap.{find, put, is_sorted}
use Rattle.std.specs.FinMap.Entries.{where_key}
use Rattle.std.specs.Ordering.{eq_by_cmp, is_lt}
use Rattle.std.specs.Prelude.{nat_eq, ◌&&◌}
use Rattle.std.specs.Cmp.{IsPartialEquivalence, and_per, on_per, partial_equiv_from_equiv}
use Rattle.std.specs.Cmp.Lexicographic.{pointwise, lists_per, lists_equiv, nat_list_eq_equiv}
use Rattle.wse_path.specs.Path.{Path, is_under}
use Rattle.wse_path.specs.Order.{path_cmp}
use Rattle.wse_path.specs.PathMap.{set_value}

-- The files with their contents, in path order: a finite map, which `find` reads.
abbrev pub Entries : Type 0
Entries = List (Path × List ℕ)

-- The bytes at a path.
abbrev pub content : Entries → Path → Option (List ℕ)
content files p = find path_cmp p files

abbrev pub is_present : Entries → Path → Bool
is_present files p = is_some (content files p)

-- The files with these bytes at the path, and all else as it is.
abbrev pub put_file : Entries → Path → List ℕ → Entries
put_file files p bytes = put path_cmp p bytes files

-- The files but for the one at the path.
abbrev pub remove_file : Entries → Path → Entries
remove_file files p = where_key path_cmp (λ q. not (eq_by_cmp path_cmp p q)) files

-- The files with these bytes at the path, or without the path where there are none.
abbrev pub set_file : Entries → Path → Option (List ℕ) → Entries
set_file files p bytes = set_value files p bytes

-- The files with each of these paths set, one after another.
abbrev pub set_files : List (Path × Option (List ℕ)) → Entries → Entries
set_files [] files = files
set_files (c ∷ more) files = set_files more (set_file files c.0 c.1)

-- The files with all of these put, one after another.
abbrev pub put_all : Entries → Entries → Entries
put_all [] files = files
put_all (e ∷ more) files = put_all more (put_file files e.0 e.1)

-- The second path is at the first, above it or under it.
abbrev pub is_near : Path → Path → Bool
is_near p q = eq_by_cmp path_cmp p q || is_under p q || is_under q p

-- No file is at, above or under the path.
abbrev pub fits : Entries → Path → Bool
fits files p = not (list_any (λ e. is_near p e.0) files)

-- Some file is under the path.
abbrev pub is_folder : Entries → Path → Bool
is_folder files p = list_any (λ e. is_under e.0 p) files

-- The paths of the files under the path, in path order.
abbrev pub paths_under : Entries → Path → List Path
paths_under files p = map (λ e. e.0) (where_key path_cmp (λ q. is_under q p) files)

-- The entries that come behind the path.
abbrev pub entries_behind : Entries → Path → Entries
entries_behind files p = where_key path_cmp (λ q. is_lt (path_cmp p q)) files

-- The first entry in path order whose path is above this one.
abbrev pub entry_above : Entries → Path → Option (Path × List ℕ)
entry_above files p = find_entry (λ e. is_under p e.0) files

-- The file that stands above the path.
abbrev pub file_above : Entries → Path → Option Path
file_above files p = option_map (λ e. e.0) (entry_above files p)

-- A file may be put at the path: it is present, or it fits.
abbrev pub HasRoom : Entries → Path → Type 0
HasRoom files p = (is_present files p ≡ true) ⊎ (fits files p ≡ true)

-- The paths rise, and none is under another.
pub record IsTree (files : Entries) : Type 0 where
  pub rises : is_sorted path_cmp files ≡ true
  pub apart : (p q : Path) → is_present files p ≡ true → is_present files q ≡ true → is_under p q ≡ false

-- A tree as contracts see it, and how many more files find room without taking memory.
pub record TreeState : Type 0 where
  pub files : Entries
  pub is_tree : IsTree files
  pub spare : ℕ

-- The bytes of all files, or 2^64-1 where they are more.
abbrev pub total_bytes : Entries → ℕ
total_bytes files = min (sum_by (λ e. length e.1) files) (2 ^ 64 - 1)

-- The same files: equal paths with equal bytes.
abbrev pub same_files : Entries → Entries → Bool
same_files = pointwise (λ a b. pointwise (pointwise nat_eq) a.0 b.0 && pointwise nat_eq a.1 b.1)

pub same_files_laws : IsPartialEquivalence same_files
same_files_laws = lists_per (and_per (on_per (λ e. e.0) (partial_equiv_from_equiv (lists_equiv nat_list_eq_equiv))) (on_per (λ e. e.1) (partial_equiv_from_equiv nat_list_eq_equiv)))
