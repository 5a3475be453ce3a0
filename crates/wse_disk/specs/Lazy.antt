-- A tree with changes that are still to be made.
use Rattle.std.specs.Prelude.{ℕ, List, Option}
use Rattle.wse_path.specs.Path.{Path}
use Rattle.wse_path.specs.Tree.{Entries, IsTree}

-- The files with all changes made, which are a tree, and the changes that are still to be made, in path order.
pub record LazyState : Type 0 where
  pub files : Entries
  pub is_tree : IsTree files
  pub changes : List (Path × Option (List ℕ))
