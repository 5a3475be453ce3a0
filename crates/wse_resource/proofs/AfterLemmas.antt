-- The tree after an operation: what it has at each path, and that it is a tree.
use Rattle.std.proofs.Common.{◌≡◌, ℕ, Bool, true, false, cond, not, ◌&&◌, List, [], ◌∷◌, map, Option, Some, None, ◌⊎◌, inl, inr, refl, sym, ap, ◌∙◌}
use Rattle.std.specs.Prelude.{is_some}
use Rattle.std.specs.List.{AllByRecursion}
use Rattle.std.specs.FinMap.{find, is_sorted}
use Rattle.std.specs.FinMap.Entries.{find-put}
use Rattle.std.specs.Cmp.Lexicographic.{lists_total, nat_list_cmp_total}
use Rattle.std.proofs.lemmas.Bool.{false_from_ne_true}
use Rattle.wse_path.specs.Path.{Path, is_under}
use Rattle.wse_path.specs.Order.{path_cmp}
use Rattle.wse_path.specs.Tree.{Entries, content, is_present, is_folder, file_above, put_file, IsTree}
use Rattle.wse_path.specs.declared.operation.ResourceOp.{ResourceOp}
use Rattle.wse_path.specs.declared.operation.ResourceOp.TheVariants.{Create, Rename, Delete}
use Rattle.wse_path.proofs.TreeLemmas.{tree_put, rises_put}
use Rattle.wse_resource.specs.Table.{is_within, moved, files_within}
use Rattle.wse_resource.specs.After.{without, moved_files, after_operation, content_after}
use Rattle.wse_resource.proofs.WithinLemmas.{moved_within, moved_back, moved_under, above_both, under_trans}
use Rattle.wse_path.proofs.PutLemmas.{find_where, sorted_where, sorted_put_each, put_all_is, find_put_each, each_found, each_passes}
use Rattle.wse_path.proofs.RoomLemmas.{room_where}
use Rattle.wse_overlay.proofs.AboveLemmas.{clash, none_above}
use Rattle.wse_resource.proofs.EntriesLemmas.{has_moved_keys}

-- ---- what it has at each path

pub content_without : (files : Entries) (p q : Path) → content (without files p) q ≡ cond (not (is_within q p)) (content files q) None
content_without files p q = find_where (λ x. not (is_within x p)) q files

pub content_within : (files : Entries) (p q : Path) → content (files_within files p) q ≡ cond (is_within q p) (content files q) None
content_within files p q = find_where (λ x. is_within x p) q files

pub some_before : (w : Bool) (o : Option (List ℕ)) (v : List ℕ) → cond w o None ≡ Some v → o ≡ Some v
some_before true o v e = e
some_before false o v e = cc

each_mapped : (h : Path → Option (List ℕ)) (k : Path → Path) (es : Entries) → AllByRecursion (λ e. h (k e.0) ≡ Some e.1) es → AllByRecursion (λ (e : Path × List ℕ). h e.0 ≡ Some e.1) (map (λ (e : Path × List ℕ). (k e.0, e.1)) es)
each_mapped h k [] all = tt
each_mapped h k (e ∷ es) all = (all.0, each_mapped h k es all.1)

each_there : (from : Path) (f : Path → Path) (h : Path → Option (List ℕ)) (es : Entries) → ((q : Path) → is_within q from ≡ true → f q ≡ q) → AllByRecursion (λ e. is_within e.0 from ≡ true) es → AllByRecursion (λ e. h e.0 ≡ Some e.1) es → AllByRecursion (λ e. h (f e.0) ≡ Some e.1) es
each_there from f h [] same within all = tt
each_there from f h (e ∷ es) same within all = (ap h (same e.0 within.0) ∙ all.0, each_there from f h es same within.1 all.1)

-- each moved file is what was where it came from
moved_found : (files : Entries) (from to : Path) → is_sorted path_cmp files ≡ true → AllByRecursion (λ e. content files (moved to from e.0) ≡ Some e.1) (moved_files files from to)
moved_found files from to s =
    let sources = files_within files from in
    each_mapped (λ q. content files (moved to from q)) (moved from to) sources (each_there from (λ q. moved to from (moved from to q)) (content files) sources (moved_back from to) (each_passes (λ q. is_within q from) files)
    (each_found (content files) sources (sorted_where (λ q. is_within q from) files s) (λ q v e. some_before (is_within q from) (content files q) v (sym (content_within files from q) ∙ e))))

-- a file is moved to the path just if the path is at or under the target, and there was one where it comes from
pub has_moved : {Y : Type 0} (files : Entries) (from to : Path) (v : Path × List ℕ → Y) (q : Path) → is_some (find path_cmp q (map (λ e. (moved from to e.0, v e)) (files_within files from))) ≡ (is_within q to && is_some (content files (moved to from q)))
has_moved files from to v q =
    has_moved_keys from to v (files_within files from) q (each_passes (λ x. is_within x from) files)
    ∙ ap (λ o. is_within q to && is_some o) (content_within files from (moved to from q) ∙ ap (λ w. cond w (content files (moved to from q)) None) (moved_within to from q))

kept : (w : Bool) (c : Option (List ℕ)) → cond (not w) c None ≡ cond w None c
kept true c = refl
kept false c = refl

renamed : (w v : Bool) (m c : Option (List ℕ)) → cond (w && is_some m) m (cond (not w) (cond (not v) c None) None) ≡ cond w m (cond v None c)
renamed true v None c = refl
renamed true v (Some x) c = refl
renamed false true m c = refl
renamed false false m c = refl

pub content_is : (files : Entries) (op : ResourceOp) (q : Path) → is_sorted path_cmp files ≡ true → content (after_operation files op) q ≡ content_after files op q
content_is files (Create p overwrite ignore) q s = find-put path_cmp (lists_total nat_list_cmp_total) q p [] files
content_is files (Rename from to overwrite ignore) q s =
    let left = without (without files from) to in
    ap (λ es. content es q) (put_all_is (moved_files files from to) left)
    ∙ find_put_each (λ x. content files (moved to from x)) (moved_files files from to) left q (moved_found files from to s)
    ∙ (λ i. cond (has_moved files from to (λ e. e.1) q i) (content files (moved to from q)) ((content_without (without files from) to q ∙ ap (λ c. cond (not (is_within q to)) c None) (content_without files from q)) i))
    ∙ renamed (is_within q to) (is_within q from) (content files (moved to from q)) (content files q)
content_is files (Delete p recursive ignore) q s = content_without files p q ∙ kept (is_within q p) (content files q)

-- ---- that it is a tree

pub sorted_after : (files : Entries) (op : ResourceOp) → is_sorted path_cmp files ≡ true → is_sorted path_cmp (after_operation files op) ≡ true
sorted_after files (Create p overwrite ignore) s = rises_put files p [] s
sorted_after files (Rename from to overwrite ignore) s =
    let left = without (without files from) to in
    ap (λ es. is_sorted path_cmp es) (put_all_is (moved_files files from to) left)
    ∙ sorted_put_each (moved_files files from to) left (sorted_where (λ q. not (is_within q to)) (without files from) (sorted_where (λ q. not (is_within q from)) files s))
sorted_after files (Delete p recursive ignore) s = sorted_where (λ q. not (is_within q p)) files s

some_kept : (w : Bool) (o : Option (List ℕ)) → is_some (cond w None o) ≡ true → (w ≡ false) × (is_some o ≡ true)
some_kept true o h = cc
some_kept false o h = (refl, h)

pub tree_without : (files : Entries) (p : Path) → IsTree files → IsTree (without files p)
tree_without files p tree = record {
  rises = sorted_where (λ q. not (is_within q p)) files tree.rises;
  apart = λ a b ha hb.
      let was : (q : Path) → is_present (without files p) q ≡ true → is_present files q ≡ true = λ q h. (some_kept (is_within q p) (content files q) (ap is_some (sym (content_without files p q ∙ kept (is_within q p) (content files q))) ∙ h)).1 in
      tree.apart a b (was a ha) (was b hb);
}

-- a path that is present after a rename came from the source, or was there before and stays
abbrev Came : Entries → (from to : Path) → Path → Type 0
Came files from to q =
    ((is_within q to ≡ true) × (is_present files (moved to from q) ≡ true)) ⊎ ((is_within q to ≡ false) × (is_present files q ≡ true))

came_by : (w v : Bool) (m c : Option (List ℕ)) → is_some (cond w m (cond v None c)) ≡ true → ((w ≡ true) × (is_some m ≡ true)) ⊎ ((w ≡ false) × (is_some c ≡ true))
came_by true v m c h = inl (refl, h)
came_by false v m c h = inr (refl, (some_kept v c h).1)

came : (files : Entries) (from to : Path) (overwrite ignore : Bool) (q : Path) → is_sorted path_cmp files ≡ true → is_present (after_operation files (Rename from to overwrite ignore)) q ≡ true → Came files from to q
came files from to overwrite ignore q s h =
    came_by (is_within q to) (is_within q from) (content files (moved to from q)) (content files q) (ap is_some (sym (content_is files (Rename from to overwrite ignore) q s)) ∙ h)

apart_came : (files : Entries) (from to p q : Path) → IsTree files → file_above files to ≡ None → Came files from to p → Came files from to q → is_under p q ≡ true → ⊥
apart_came files from to p q tree above (inl a) (inl b) h = clash _ (moved_under to from p q a.0 b.0 h) (tree.apart _ _ a.1 b.1)
apart_came files from to p q tree above (inl a) (inr b) h =
    elim (above_both p q to h a.0) [
      | inl within ↦ clash _ within b.0
      | inr under ↦ clash _ under (none_above files to q above b.1)
    ]
apart_came files from to p q tree above (inr a) (inl b) h = clash _ (under_trans p q to h b.0) a.0
apart_came files from to p q tree above (inr a) (inr b) h = clash _ h (tree.apart p q a.1 b.1)

pub tree_renamed : (files : Entries) (from to : Path) (overwrite ignore : Bool) → IsTree files → file_above files to ≡ None → IsTree (after_operation files (Rename from to overwrite ignore))
tree_renamed files from to overwrite ignore tree above = record {
  rises = sorted_after files (Rename from to overwrite ignore) tree.rises;
  apart = λ p q hp hq. false_from_ne_true (is_under p q) (apart_came files from to p q tree above (came files from to overwrite ignore p tree.rises hp) (came files from to overwrite ignore q tree.rises hq));
}

pub tree_created : (files : Entries) (p : Path) → IsTree files → is_folder files p ≡ false → file_above files p ≡ None → IsTree (put_file files p [])
tree_created files p tree folder above = tree_put files p [] tree (room_where files p folder above)
