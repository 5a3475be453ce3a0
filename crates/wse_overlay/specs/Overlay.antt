-- What a tree with changes over it shows.
use Rattle.std.specs.Prelude.{◌≡◌, ℕ, true, false, not, List, [], ◌∷◌, map, Option, Some, None}
use Rattle.std.specs.FinMap.Entries.{where_key}
use Rattle.wse_path.specs.Path.{Path, is_under}
use Rattle.wse_path.specs.Order.{path_cmp, is_named}
use Rattle.wse_path.specs.Tree.{Entries, is_present, put_file, IsTree}

-- The files of the tree below, and those that are shown, which are a tree too.
pub record OverlayState : Type 0 where
  pub base : Entries
  pub files : Entries
  pub is_tree : IsTree files

-- The files but for those at the paths.
abbrev pub kept : List Path → Entries → Entries
kept gone files = where_key path_cmp (λ q. not (is_named gone q)) files

-- The files with all of these put. Of two at one path the first counts.
abbrev pub put_over : Entries → Entries → Entries
put_over [] files = files
put_over (e ∷ more) files = put_file (put_over more files) e.0 e.1

-- The files below but for those that are gone, with all that were put.
abbrev pub shown : (gone : List Path) → (put below : Entries) → Entries
shown gone put below = put_over put (kept gone below)

-- No file is under another.
abbrev pub AreApart : Entries → Type 0
AreApart files = (p q : Path) → is_present files p ≡ true → is_present files q ≡ true → is_under p q ≡ false

-- The paths, each with the same mark.
abbrev pub marked : List Path → List (Path × ℕ)
marked paths = map (λ p. (p, 0)) paths

-- Nothing at each of the paths.
abbrev pub without_content : List Path → List (Path × Option (List ℕ))
without_content paths = map (λ p. (p, None)) paths

-- The content of each of the files.
abbrev pub with_content : Entries → List (Path × Option (List ℕ))
with_content files = map (λ e. (e.0, Some e.1)) files
