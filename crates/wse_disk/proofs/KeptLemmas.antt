-- What is read differs only at the paths that change, however a write ends.
use Rattle.std.proofs.Common.{◌≡◌, ◌≢◌, inl, inr, true, false, cond, List, [], ◌∷◌, Option, Some, None, refl, sym, ◌∙◌, ap, subst}
use Rattle.std.specs.Prelude.{Result, Ok, Err}
use Rattle.std.specs.Ordering.{eq_by_cmp}
use Rattle.std.proofs.lemmas.Bool.{false_from_ne_true, both_ways}
use Rattle.wse_path.specs.Order.{path_cmp}
use Rattle.wse_path.specs.Path.{Path}
use Rattle.wse_path.specs.Tree.{Entries, content, put_file, remove_file, IsTree}
use Rattle.wse_path.specs.Changes.{is_changed}
use Rattle.wse_path.specs.declared.change.Change.{Change}
use Rattle.wse_path.proofs.TreeLemmas.{same_path, content_put_other}
use Rattle.wse_path.proofs.ChangeLemmas.{content_remove}
use Rattle.wse_disk.specs.declared.area.Area.{Area}
use Rattle.wse_disk.specs.Reading.{Reading, Write, Stores, Erases, Patches, area_of, applied}
use Rattle.wse_disk.specs.Standing.{Standing, WriteLeaves}
use Rattle.wse_disk.specs.Told.{ReadsAnImage}
use Rattle.wse_disk.specs.Calls.{Told, TellsWrite, TellsSync}
use Rattle.wse_disk.specs.Changes.{ChangesOnly, HasChangedOnly, AllOf}
use Rattle.wse_disk.proofs.AreaLemmas.{areas_stay}
use Rattle.wse_disk.proofs.ImageLemmas.{synced_reads}

-- A path that doesn't change isn't one that does.
other_path : (cs : List Change) (p q : Path) → is_changed cs p ≡ true → is_changed cs q ≡ false → q ≢ p
other_path cs p q one none same = both_ways (is_changed cs q) none (subst (λ (x : Path). is_changed cs x ≡ true) (sym same) one)

not_tied_to : (p q : Path) → q ≢ p → eq_by_cmp path_cmp q p ≡ false
not_tied_to p q other = false_from_ne_true _ (λ same. other (same_path q p same))

content_remove_other : (es : Entries) (p q : Path) → q ≢ p → content (remove_file es p) q ≡ content es q
content_remove_other es p q other = content_remove es p q ∙ ap (λ b. cond b None (content es q)) (not_tied_to p q other)

-- A tree in which one path that changes differs.
one_differs : (cs : List Change) (p : Path) (r m n : Reading) → is_changed cs p ≡ true → IsTree n.files
    → ((q : Path) → q ≢ p → content n.files q ≡ content m.files q) → ((a : Area) → area_of a n ≡ area_of a m)
    → ChangesOnly cs r m → ChangesOnly cs r n
one_differs cs p r m n one tree others areas only = record {
  files = record {
    tree = tree;
    others = λ q none. others q (other_path cs p q one none) ∙ only.files.others q none;
  };
  areas = λ a. areas a ∙ only.areas a;
}

done_whole : (cs : List Change) (w : Write) (r m : Reading) → AllOf cs (w ∷ []) → IsTree (applied w m).files → ChangesOnly cs r m → ChangesOnly cs r (applied w m)
done_whole cs (Stores p bytes) r m one tree only =
    one_differs cs p r m (applied (Stores p bytes) m) one.0 tree (λ q other. content_put_other m.files p bytes q other) (λ a. areas_stay a (put_file m.files p bytes) m) only
done_whole cs (Erases p) r m one tree only =
    one_differs cs p r m (applied (Erases p) m) one.0 tree (λ q other. content_remove_other m.files p q other) (λ a. areas_stay a (remove_file m.files p) m) only
done_whole cs (Patches a place bytes) r m one tree only = absurd one

writes_kept : {T E : Type 0} (cs : List Change) (w : Write) (result : Result T E) (r : Reading) (t u : Standing) → AllOf cs (w ∷ []) → IsTree u.reading.files → WriteLeaves w result t u → ChangesOnly cs r t.reading → ChangesOnly cs r u.reading
writes_kept cs w (Ok x) r t u one tree done only =
    let is = ap (λ (v : Standing). v.reading) done in
    subst (λ (n : Reading). ChangesOnly cs r n) (sym is) (done_whole cs w r t.reading one (subst (λ (n : Reading). IsTree n.files) is tree) only)
writes_kept cs w (Err e) r t u one tree (inl same) only = subst (λ (v : Standing). ChangesOnly cs r v.reading) (sym same) only
writes_kept cs (Stores p bytes) (Err e) r t u one tree (inr counts) only =
    subst (λ (v : Standing). ChangesOnly cs r v.reading) (sym counts.1) (one_differs cs p r t.reading counts.0 one.0 counts.2.tree counts.2.others counts.2.areas only)
writes_kept cs (Erases p) (Err e) r t u one tree (inr counts) only =
    subst (λ (v : Standing). ChangesOnly cs r v.reading) (sym counts.1) (one_differs cs p r t.reading counts.0 one.0 counts.2.tree counts.2.others counts.2.areas only)
writes_kept cs (Patches a place bytes) (Err e) r t u one tree (inr counts) only = absurd one

-- One write more, however it ends.
pub one_kept : {T E : Type 0} (cs : List Change) (w : Write) (start now new : Option Standing) (result : Result T E) → AllOf cs (w ∷ []) → ReadsAnImage new → TellsWrite w now new result → HasChangedOnly cs start now → HasChangedOnly cs start new
one_kept cs w None None None result one image wrote kept = tt
one_kept cs w None None (Some u) result one image wrote kept = absurd wrote
one_kept cs w None (Some t) new result one image wrote kept = absurd kept
one_kept cs w (Some s) None new result one image wrote kept = absurd kept
one_kept cs w (Some s) (Some t) None result one image wrote kept = absurd wrote
one_kept cs w (Some s) (Some t) (Some u) result one image wrote kept = writes_kept cs w result s.reading t u one image.tree wrote kept

-- Nothing was done.
pub none_kept : (cs : List Change) (now : Option Standing) → ReadsAnImage now → HasChangedOnly cs now now
none_kept cs None image = tt
none_kept cs (Some s) image = record { files = record { tree = image.tree; others = λ q none. refl }; areas = λ a. refl }

-- A sync leaves what is read.
pub sync_kept : {T E : Type 0} (cs : List Change) (start now new : Option Standing) (result : Result T E) → TellsSync now new result → HasChangedOnly cs start now → HasChangedOnly cs start new
sync_kept cs start now new result synced kept = go start now new kept (synced_reads now new result synced)
  where
    go : (start now new : Option Standing) → HasChangedOnly cs start now → Told (λ s t. t.reading ≡ s.reading) now new → HasChangedOnly cs start new
    go None None None kept same = tt
    go None None (Some u) kept same = absurd same
    go None (Some t) new kept same = absurd kept
    go (Some s) None new kept same = absurd kept
    go (Some s) (Some t) None kept same = absurd same
    go (Some s) (Some t) (Some u) kept same = subst (λ (n : Reading). ChangesOnly cs s.reading n) (sym same) kept
