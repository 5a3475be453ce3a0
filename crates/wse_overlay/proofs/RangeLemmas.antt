-- What a part of a map of std says of the files above and under a path.
use Rattle.std.proofs.Common.{◌≡◌, ℕ, Bool, true, false, cond, ◌&&◌, List, [], ◌∷◌, ◌++◌, map, slice_get, Option, Some, None, refl, sym, ap, subst, ◌∙◌}
use Rattle.std.specs.Prelude.{is_some}
use Rattle.std.specs.Option.{IfSome}
use Rattle.std.specs.BTreeMap.{BTreeMap}
use Rattle.std.specs.BTreeMap.Range.{IsRangeOf, IsEntryInRange, IsLeBy, entries_between}
use Rattle.std.specs.declared.ops.Bound.TheVariants.{Excluded, Unbounded}
use Rattle.std.specs.Ordering.{is_lt}
use Rattle.std.specs.FinMap.{find}
use Rattle.wse_path.specs.Path.{Path, is_under}
use Rattle.wse_path.specs.Order.{path_cmp}
use Rattle.wse_path.specs.Tree.{Entries, is_folder, file_above, paths_under}
use Rattle.wse_overlay.specs.Overlay.{AreApart}
use Rattle.wse_path.proofs.UnderLemmas.{where_behind, under_of_behind}
use Rattle.wse_overlay.proofs.AboveLemmas.{above_last, above_before_all, folder_first, folder_behind_all}
use Rattle.wse_overlay.proofs.ShownLemmas.{lookup_is_find}

-- ---- a part of a map

absent_not : (o : Option (List ℕ)) → o ≡ None → is_some o ≡ true → ⊥
absent_not None e h = cc
absent_not (Some v) e h = cc

-- the last file before a path
pub above_in : (m : BTreeMap Path (List ℕ)) (p : Path) (r : Entries) (k : Path) (v : List ℕ) (t : Entries) → AreApart m.entries → IsRangeOf path_cmp Unbounded (Excluded p) m r → r ≡ t ++ (k, v) ∷ [] → file_above m.entries p ≡ cond (is_under p k) (Some k) None
above_in m p r k v t apart range is =
    let entry = range.3 (k, v) t is in
    above_last m.entries p k apart (ap is_some (sym (lookup_is_find k m.entries) ∙ entry.1)) entry.0.1
    (λ q l h. range.4 (k, v) t is q (tt, l) (ap is_some (lookup_is_find q m.entries) ∙ h))

pub above_out : (m : BTreeMap Path (List ℕ)) (p : Path) (r : Entries) → IsRangeOf path_cmp Unbounded (Excluded p) m r → r ≡ [] → file_above m.entries p ≡ None
above_out m p r range is =
    above_before_all m.entries p (λ q l h. absent_not (find path_cmp q m.entries) (sym (lookup_is_find q m.entries) ∙ range.5 is q (tt, l)) h)

-- the first file behind a path
pub folder_in : (m : BTreeMap Path (List ℕ)) (p : Path) (r : Entries) (k : Path) (v : List ℕ) (t : Entries) → IsRangeOf path_cmp (Excluded p) Unbounded m r → r ≡ (k, v) ∷ t → is_folder m.entries p ≡ is_under k p
folder_in m p r k v t range is =
    let first = subst (λ (s : Entries). IfSome (slice_get s 0) (IsEntryInRange path_cmp (Excluded p) Unbounded m)) is range.1 in
    folder_first m.entries p k (ap is_some (sym (lookup_is_find k m.entries) ∙ first.1)) first.0.0
    (λ q l h. subst (λ (s : Entries). IfSome (slice_get s 0) (λ e. IsLeBy path_cmp e.0 q)) is (range.2 q (l, tt) (ap is_some (lookup_is_find q m.entries) ∙ h)))

pub folder_out : (m : BTreeMap Path (List ℕ)) (p : Path) (r : Entries) → IsRangeOf path_cmp (Excluded p) Unbounded m r → r ≡ [] → is_folder m.entries p ≡ false
folder_out m p r range is =
    folder_behind_all m.entries p (λ q l h. absent_not (find path_cmp q m.entries) (sym (lookup_is_find q m.entries) ∙ range.5 is q (l, tt)) h)

and_true : (b : Bool) → (b && true) ≡ b
and_true true = refl
and_true false = refl

-- what comes behind a path in a map
pub between_is_behind : (p : Path) (es : Entries) → entries_between path_cmp (Excluded p) Unbounded es ≡ where_behind p es
between_is_behind p [] = refl
between_is_behind p (e ∷ es) = λ i. cond (and_true (is_lt (path_cmp p e.0)) i) (e ∷ between_is_behind p es i) (between_is_behind p es i)

-- the paths under one are among those behind it
pub under_part : (p : Path) (es part : Entries) → part ≡ where_behind p es → paths_under es p ≡ paths_under part p
under_part p es part is =
    ap (λ (l : Entries). map (λ (e : Path × List ℕ). e.0) l) (sym (under_of_behind p es)) ∙ ap (λ (l : Entries). paths_under l p) (sym is)
