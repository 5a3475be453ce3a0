-- Paths that are set in files, one after the other.
use Rattle.std.proofs.Common.{◌≡◌, ℕ, Bool, true, false, cond, ◌||◌, List, [], ◌∷◌, ◌++◌, Option, refl, sym, ap, subst, ◌∙◌}
use Rattle.std.specs.List.{list_any}
use Rattle.std.specs.Ordering.{eq_by_cmp}
use Rattle.std.specs.FinMap.{is_sorted, slice_cmp-IsAntisymmetric, nat_cmp-IsAntisymmetric}
use Rattle.std.specs.FinMap.Entries.{same_entries}
use Rattle.std.specs.Cmp.Lexicographic.{lists_total, nat_list_cmp_total}
use Rattle.std.proofs.lemmas.Bool.{or_parts}
use Rattle.wse_path.specs.Path.{Path}
use Rattle.wse_path.specs.Order.{path_cmp}
use Rattle.wse_path.specs.Tree.{Entries, content, set_file, set_files}
use Rattle.wse_path.specs.Changes.{is_same, is_changed, changes_between, paths_of_both}
use Rattle.wse_path.specs.declared.change.Change.{Change}
use Rattle.wse_path.proofs.EntryLemmas.{to_so}
use Rattle.wse_path.proofs.ContentLemmas.{content_set, sorted_set_files}
use Rattle.wse_path.proofs.ChangeLemmas.{AllTrue, all_true}
use Rattle.wse_path.proofs.GatheredLemmas.{is_same_itself}
use Rattle.wse_path.proofs.PathOrder.{same_path}

-- Files in order that hold the same everywhere are the same.
pub same_everywhere : (a b : Entries) → is_sorted path_cmp a ≡ true → is_sorted path_cmp b ≡ true → ((q : Path) → content a q ≡ content b q) → a ≡ b
same_everywhere a b p r same =
    same_entries path_cmp (lists_total nat_list_cmp_total) (slice_cmp-IsAntisymmetric (slice_cmp-IsAntisymmetric nat_cmp-IsAntisymmetric)) a b (to_so _ p) (to_so _ r) same

-- The path is among those that are set.
abbrev pub is_set : List (Path × Option (List ℕ)) → Path → Bool
is_set cs q = list_any (λ c. eq_by_cmp path_cmp q c.0) cs

pub set_others : (cs : List (Path × Option (List ℕ))) (files : Entries) (q : Path) → is_set cs q ≡ false → content (set_files cs files) q ≡ content files q
set_others [] files q h = refl
set_others (c ∷ cs) files q h =
    let parts = or_parts (eq_by_cmp path_cmp q c.0) (is_set cs q) h in
    set_others cs (set_file files c.0 c.1) q parts.1
    ∙ content_set files c.0 c.1 q
    ∙ ap (λ b. cond b c.1 (content files q)) parts.0

-- Files that differ only where paths are set hold the same when these are set.
set_same_at : (cs : List (Path × Option (List ℕ))) (a b : Entries) (q : Path) → (is_set cs q ≡ false → content a q ≡ content b q) → content (set_files cs a) q ≡ content (set_files cs b) q
set_same_at [] a b q same = same refl
set_same_at (c ∷ cs) a b q same =
    set_same_at cs (set_file a c.0 c.1) (set_file b c.0 c.1) q
    (λ none. content_set a c.0 c.1 q
    ∙ elim (eq_by_cmp path_cmp q c.0) as (λ x. eq_by_cmp path_cmp q c.0 ≡ x → cond x c.1 (content a q) ≡ cond x c.1 (content b q)) [
      | true ↦ λ e. refl
      | false ↦ λ e. same ((λ i. e i || none i))
    ] refl
    ∙ sym (content_set b c.0 c.1 q))

pub set_alike : (cs : List (Path × Option (List ℕ))) (a b : Entries) → is_sorted path_cmp a ≡ true → is_sorted path_cmp b ≡ true → ((q : Path) → is_set cs q ≡ false → content a q ≡ content b q) → set_files cs a ≡ set_files cs b
set_alike cs a b p r same = same_everywhere (set_files cs a) (set_files cs b) (sorted_set_files cs a p) (sorted_set_files cs b r) (λ q. set_same_at cs a b q (same q))

-- What is set is set already.
pub set_again : (cs : List (Path × Option (List ℕ))) (files : Entries) → is_sorted path_cmp files ≡ true → set_files cs (set_files cs files) ≡ set_files cs files
set_again cs files p = set_alike cs (set_files cs files) files (sorted_set_files cs files p) p (λ q. set_others cs files q)

pub set_append : (a b : List (Path × Option (List ℕ))) (files : Entries) → set_files (a ++ b) files ≡ set_files b (set_files a files)
set_append [] b files = refl
set_append (c ∷ a) b files = set_append a b (set_file files c.0 c.1)

-- Where a true change is, the contents differ.
changed_differs : (old new : Entries) (cs : List Change) (q : Path) → AllTrue old new cs → is_changed cs q ≡ true → is_same (content old q) (content new q) ≡ false
changed_differs old new [] q all h = cc
changed_differs old new (c ∷ cs) q all h =
    elim (eq_by_cmp path_cmp q c.path) as (λ b. eq_by_cmp path_cmp q c.path ≡ b → (b || is_changed cs q) ≡ true → is_same (content old q) (content new q) ≡ false) [
      | true ↦ λ e _. subst (λ (p : Path). is_same (content old p) (content new p) ≡ false) (sym (same_path q c.path e)) all.0.differs
      | false ↦ λ e k. changed_differs old new cs q all.1 k
    ] refl h

-- Where nothing is set nothing is changed.
pub unchanged_where_unset : (cs : List (Path × Option (List ℕ))) (old : Entries) (q : Path) → is_set cs q ≡ false → is_changed (changes_between old (set_files cs old)) q ≡ false
unchanged_where_unset cs old q none =
    let new = set_files cs old in
    elim (is_changed (changes_between old new) q) as (λ b. is_changed (changes_between old new) q ≡ b → b ≡ false) [
      | true ↦ λ e.
          let differs = changed_differs old new (changes_between old new) q (all_true old new (paths_of_both old new)) e in
          sym (is_same_itself (content old q)) ∙ ap (is_same (content old q)) (sym (set_others cs old q none)) ∙ differs
      | false ↦ λ e. refl
    ] refl
