-- What files hold at each path after paths are set.
use Rattle.std.proofs.Common.{◌≡◌, ℕ, true, false, cond, List, [], ◌∷◌, Option, Some, refl, ap, ◌∙◌}
use Rattle.std.specs.FinMap.{find, is_sorted}
use Rattle.std.specs.FinMap.Entries.{below_all}
use Rattle.std.specs.Option.{unwrap_or}
use Rattle.std.specs.Ordering.{eq_by_cmp}
use Rattle.std.proofs.lemmas.Cmp.{tied_back}
use Rattle.wse_path.specs.Order.{path_cmp}
use Rattle.wse_path.specs.Path.{Path}
use Rattle.wse_path.specs.PathMap.{set_value, update_all}
use Rattle.wse_path.specs.Tree.{Entries, content, set_file, set_files}
use Rattle.wse_path.proofs.EntryLemmas.{and_parts, equal_so, below_tied}
use Rattle.wse_path.proofs.MergeLemmas.{find_below, sorted_set, value_set}
use Rattle.wse_path.proofs.PathOrder.{total}

-- what stands at a path after one is set
pub content_set : (files : Entries) (p : Path) (bytes : Option (List ℕ)) (q : Path) → content (set_file files p bytes) q ≡ cond (eq_by_cmp path_cmp q p) bytes (content files q)
content_set files p bytes q = value_set files p bytes q

-- what stands at a path after paths that rise are set: what they say of it, and else what stood there
pub content_set_files : (cs : List (Path × Option (List ℕ))) (files : Entries) (q : Path) → is_sorted path_cmp cs ≡ true → content (set_files cs files) q ≡ unwrap_or (find path_cmp q cs) (content files q)
content_set_files [] files q s = refl
content_set_files (c ∷ cs) files q s =
    let parts = and_parts (below_all path_cmp c.0 cs) (is_sorted path_cmp cs) s in
    content_set_files cs (set_file files c.0 c.1) q parts.1
    ∙ ap (λ o. unwrap_or (find path_cmp q cs) o) (content_set files c.0 c.1 q)
    ∙ elim (eq_by_cmp path_cmp q c.0) as (λ b. eq_by_cmp path_cmp q c.0 ≡ b → unwrap_or (find path_cmp q cs) (cond b c.1 (content files q)) ≡ unwrap_or (cond b (Some c.1) (find path_cmp q cs)) (content files q)) [
      | true ↦ λ t. ap (λ o. unwrap_or o c.1) (find_below total cs q (below_tied total cs c.0 q (tied_back total q c.0 (equal_so _ t)) parts.0))
      | false ↦ λ t. refl
    ] refl

-- paths that are set keep the order
pub sorted_set_files : (cs : List (Path × Option (List ℕ))) (files : Entries) → is_sorted path_cmp files ≡ true → is_sorted path_cmp (set_files cs files) ≡ true
sorted_set_files [] files s = s
sorted_set_files (c ∷ cs) files s = sorted_set_files cs (set_file files c.0 c.1) (sorted_set files c.0 c.1 s)

-- the map sets each path to the bytes that come with it
pub set_files_is : (cs : List (Path × Option (List ℕ))) (files : Entries) → update_all (λ new old. new) cs files ≡ set_files cs files
set_files_is [] files = refl
set_files_is (c ∷ cs) files = set_files_is cs (set_value files c.0 c.1)
