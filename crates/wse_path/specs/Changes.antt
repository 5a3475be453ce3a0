-- What differs between two trees, and what changes do to files.
use Rattle.std.specs.Prelude.{◌≡◌, ℕ, Bool, true, false, List, [], ◌∷◌, map, flat_map, Option, Some, None, if◌then◌else◌}
use Rattle.std.specs.List.{list_any}
use Rattle.std.specs.Str.{bytes_eq}
use Rattle.std.specs.Ordering.{eq_by_cmp}
use Rattle.wse_path.specs.Path.{Path}
use Rattle.wse_path.specs.Order.{path_cmp}
use Rattle.wse_path.specs.Tree.{Entries, content, put_file, put_all, remove_file, IsTree}
use Rattle.wse_path.specs.declared.change.Change.{Change}

-- The same content, absence included.
abbrev pub is_same : Option (List ℕ) → Option (List ℕ) → Bool
is_same None None = true
is_same None (Some b) = false
is_same (Some a) None = false
is_same (Some a) (Some b) = bytes_eq a b

-- The change at a path from one tree to another: none where its content stays.
abbrev pub change_at : Entries → Entries → Path → List Change
change_at old new p =
    if is_same (content old p) (content new p) then []
    else record { path = p; before = content old p; after = content new p } ∷ []

-- The paths of both trees, in path order.
abbrev pub paths_of_both : Entries → Entries → List Path
paths_of_both old new = map (λ e. e.0) (put_all new old)

-- Each path whose content differs, with its old and its new content, in path order.
abbrev pub changes_between : Entries → Entries → List Change
changes_between old new = flat_map (change_at old new) (paths_of_both old new)

-- The change that a path with its new content makes: none where its content stays.
abbrev pub change_to : Entries → Path × Option (List ℕ) → List Change
change_to files e =
    if is_same (content files e.0) e.1 then []
    else record { path = e.0; before = content files e.0; after = e.1 } ∷ []

-- The path is one of those that change.
abbrev pub is_changed : List Change → Path → Bool
is_changed changes q = list_any (λ c. eq_by_cmp path_cmp q c.path) changes

-- The changed paths with their new contents. Content that isn't there is None.
abbrev pub contents_of : List Change → List (Path × Option (List ℕ))
contents_of changes = map (λ c. (c.path, c.after)) changes

abbrev pub erased_at : Path → Option (List ℕ) → Entries → Entries
erased_at p None files = remove_file files p
erased_at p (Some bytes) files = files

-- The files but for those that the changes take away.
abbrev pub erased : List Change → Entries → Entries
erased [] files = files
erased (c ∷ more) files = erased more (erased_at c.path c.after files)

abbrev pub stored_at : Path → Option (List ℕ) → Entries → Entries
stored_at p None files = files
stored_at p (Some bytes) files = put_file files p bytes

-- The files with those that the changes put.
abbrev pub stored : List Change → Entries → Entries
stored [] files = files
stored (c ∷ more) files = stored more (stored_at c.path c.after files)

-- The changes lead from these files to a tree.
pub record LeadToTree (files : Entries) (changes : List Change) : Type 0 where
  pub old : IsTree files
  pub new : Entries
  pub tree : IsTree new
  pub between : changes ≡ changes_between files new

-- The new files are a tree, which differs from the old ones only at paths that change.
pub record DiffersOnlyAt (changes : List Change) (old new : Entries) : Type 0 where
  pub tree : IsTree new
  pub others : (q : Path) → is_changed changes q ≡ false → content new q ≡ content old q
