-- What an overlay shows, path by path.
use Rattle.std.proofs.Common.{◌≡◌, ℕ, suc, Bool, true, false, cond, not, ◌||◌, List, [], ◌∷◌, map, length, nat_eq, Option, Some, None, inl, inr, refl, sym, ap, subst, ◌∙◌, arith}
use Rattle.std.specs.Prelude.{is_some}
use Rattle.std.specs.Option.{option_or}
use Rattle.std.specs.List.{list_any, filter}
use Rattle.std.specs.Map.{lookup}
use Rattle.std.specs.BTreeMap.{is_at}
use Rattle.std.specs.Ordering.{eq_by_cmp}
use Rattle.std.specs.declared.cmp.Ordering.TheVariants.{Less, Equal, Greater}
use Rattle.std.specs.FinMap.{find, is_sorted}
use Rattle.std.specs.FinMap.Entries.{by_order, where_key, same_entries}
use Rattle.std.specs.Cmp.{eq_by_cmp_equiv}
use Rattle.std.specs.Cmp.Lexicographic.{lists_total, nat_list_cmp_total}
use Rattle.std.proofs.lemmas.Bool.{eqb-true, or_cases, or_left, or_right}
use Rattle.wse_path.specs.Path.{Path, is_under}
use Rattle.wse_path.specs.Order.{path_cmp, is_named}
use Rattle.wse_path.specs.Tree.{Entries, content, is_present, is_folder, file_above, put_file, remove_file, paths_under}
use Rattle.wse_overlay.specs.Overlay.{kept, put_over, shown, AreApart}
use Rattle.wse_path.proofs.EntryLemmas.{to_so}
use Rattle.wse_path.proofs.TreeLemmas.{tied_path, rises_put, rises_remove}
use Rattle.wse_path.proofs.PutLemmas.{find_where, sorted_where}
use Rattle.wse_path.proofs.ChangeLemmas.{content_put, content_remove}
use Rattle.wse_overlay.proofs.AboveLemmas.{clash, above_found, none_above, above_none, one_above, above_is}

-- ---- content

-- what a map of std finds is what `find` finds
pub lookup_is_find : {X : Type 0} (q : Path) (es : List (Path × X)) → lookup (is_at (path_cmp q)) es ≡ find path_cmp q es
lookup_is_find q [] = refl
lookup_is_find q (e ∷ es) = ap (cond (eq_by_cmp path_cmp q e.0) (Some e.1)) (lookup_is_find q es)

turned : (p q : Path) → eq_by_cmp path_cmp p q ≡ eq_by_cmp path_cmp q p
turned p q = (eq_by_cmp_equiv (lists_total nat_list_cmp_total)).symm p q

-- two sorted lists with the same content at each path are one
pub same_files : (es fs : Entries) → is_sorted path_cmp es ≡ true → is_sorted path_cmp fs ≡ true → ((q : Path) → content es q ≡ content fs q) → es ≡ fs
same_files es fs s t same = same_entries path_cmp (lists_total nat_list_cmp_total) tied_path es fs (to_so _ s) (to_so _ t) same

pub content_kept : (gone : List Path) (es : Entries) (q : Path) → content (kept gone es) q ≡ cond (is_named gone q) None (content es q)
content_kept gone es q =
    find_where (λ x. not (is_named gone x)) q es
    ∙ elim (is_named gone q) as (λ b. cond (not b) (content es q) None ≡ cond b None (content es q)) [ true ↦ refl | false ↦ refl ]

pub content_over : (put es : Entries) (q : Path) → content (put_over put es) q ≡ option_or (content put q) (content es q)
content_over [] es q = refl
content_over (e ∷ put) es q =
    content_put (put_over put es) e.0 e.1 q
    ∙ ap (cond (eq_by_cmp path_cmp q e.0) (Some e.1)) (content_over put es q)
    ∙ elim (eq_by_cmp path_cmp q e.0) as (λ b. cond b (Some e.1) (option_or (content put q) (content es q)) ≡ option_or (cond b (Some e.1) (content put q)) (content es q)) [ true ↦ refl | false ↦ refl ]

pub content_shown : (gone : List Path) (put below : Entries) (q : Path) → content (shown gone put below) q ≡ option_or (content put q) (cond (is_named gone q) None (content below q))
content_shown gone put below q = content_over put (kept gone below) q ∙ ap (option_or (content put q)) (content_kept gone below q)

rises_over : (put es : Entries) → is_sorted path_cmp es ≡ true → is_sorted path_cmp (put_over put es) ≡ true
rises_over [] es s = s
rises_over (e ∷ put) es s = rises_put (put_over put es) e.0 e.1 (rises_over put es s)

pub rises_shown : (gone : List Path) (put below : Entries) → is_sorted path_cmp below ≡ true → is_sorted path_cmp (shown gone put below) ≡ true
rises_shown gone put below s = rises_over put (kept gone below) (sorted_where (λ q. not (is_named gone q)) below s)

-- ---- one change more

found_new : {X : Type 0} (old new : List (Path × X)) (p q : Path) (w : Option X) → lookup (is_at (path_cmp q)) new ≡ cond (is_at (path_cmp p) q) w (lookup (is_at (path_cmp q)) old) → find path_cmp q new ≡ cond (eq_by_cmp path_cmp q p) w (find path_cmp q old)
found_new old new p q w e = sym (lookup_is_find q new) ∙ e ∙ (λ i. cond (turned p q i) w (lookup_is_find q old i))

put_first : (b : Bool) (v : List ℕ) (put below : Option (List ℕ)) → option_or (cond b (Some v) put) below ≡ cond b (Some v) (option_or put below)
put_first true v put below = refl
put_first false v put below = refl

-- a file that was put
pub shown_put : (gone : List Path) (put new below : Entries) (p : Path) (v : List ℕ) → is_sorted path_cmp below ≡ true
    → ((q : Path) → lookup (is_at (path_cmp q)) new ≡ cond (is_at (path_cmp p) q) (Some v) (lookup (is_at (path_cmp q)) put))
    → shown gone new below ≡ put_file (shown gone put below) p v
shown_put gone put new below p v s at =
    same_files (shown gone new below) (put_file (shown gone put below) p v) (rises_shown gone new below s) (rises_put (shown gone put below) p v (rises_shown gone put below s))
    (λ q. content_shown gone new below q
    ∙ ap (λ o. option_or o (cond (is_named gone q) None (content below q))) (found_new put new p q (Some v) (at q))
    ∙ put_first (eq_by_cmp path_cmp q p) v (content put q) (cond (is_named gone q) None (content below q))
    ∙ ap (cond (eq_by_cmp path_cmp q p) (Some v)) (sym (content_shown gone put below q))
    ∙ sym (content_put (shown gone put below) p v q))

taken_first : (b g : Bool) (put below : Option (List ℕ)) → option_or (cond b None put) (cond (cond b true g) None below) ≡ cond b None (option_or put (cond g None below))
taken_first true g put below = refl
taken_first false g put below = refl

-- a file that was taken away
pub shown_removed : (gone left : List Path) (put new below : Entries) (p : Path) → is_sorted path_cmp below ≡ true
    → ((q : Path) → list_any (is_at (path_cmp q)) left ≡ cond (is_at (path_cmp p) q) true (list_any (is_at (path_cmp q)) gone))
    → ((q : Path) → lookup (is_at (path_cmp q)) new ≡ cond (is_at (path_cmp p) q) None (lookup (is_at (path_cmp q)) put))
    → shown left new below ≡ remove_file (shown gone put below) p
shown_removed gone left put new below p s gone_at put_at =
    same_files (shown left new below) (remove_file (shown gone put below) p) (rises_shown left new below s) (rises_remove (shown gone put below) p (rises_shown gone put below s))
    (λ q. content_shown left new below q
    ∙ (λ i. option_or (found_new put new p q None (put_at q) i) (cond ((gone_at q ∙ ap (λ b. cond b true (is_named gone q)) (turned p q)) i) None (content below q)))
    ∙ taken_first (eq_by_cmp path_cmp q p) (is_named gone q) (content put q) (content below q)
    ∙ ap (cond (eq_by_cmp path_cmp q p) None) (sym (content_shown gone put below q))
    ∙ sym (content_remove (shown gone put below) p q))

-- the same by a copy of the path
pub shown_forgotten : (gone left : List Path) (put new below : Entries) (k p : Path) → is_sorted path_cmp below ≡ true → k ≡ p
    → ((q : Path) → list_any (is_at (path_cmp q)) left ≡ cond (is_at (path_cmp k) q) true (list_any (is_at (path_cmp q)) gone))
    → ((q : Path) → lookup (is_at (path_cmp q)) new ≡ cond (is_at (path_cmp p) q) None (lookup (is_at (path_cmp q)) put))
    → shown left new below ≡ remove_file (shown gone put below) p
shown_forgotten gone left put new below k p s e gone_at put_at =
    shown_removed gone left put new below p s (subst (λ (x : Path). (q : Path) → list_any (is_at (path_cmp q)) left ≡ cond (is_at (path_cmp x) q) true (list_any (is_at (path_cmp q)) gone)) e gone_at) put_at

-- ---- no change, and what is there

kept_all : (es : Entries) → kept [] es ≡ es
kept_all [] = refl
kept_all (e ∷ es) = ap (λ t. e ∷ t) (kept_all es)

pub shown_none : (gone : List Path) (put below : Entries) → gone ≡ [] → put ≡ [] → shown gone put below ≡ below
shown_none gone put below g p = (λ i. shown (g i) (p i) below) ∙ kept_all below

pub put_shows : (gone : List Path) (put below : Entries) (p : Path) (v : List ℕ) → Some v ≡ lookup (is_at (path_cmp p)) put → Some v ≡ content (shown gone put below) p
put_shows gone put below p v e =
    sym (content_shown gone put below p ∙ ap (λ o. option_or o (cond (is_named gone p) None (content below p))) (sym (e ∙ lookup_is_find p put)))

pub kept_shows : (gone : List Path) (put below : Entries) (p : Path) → None ≡ lookup (is_at (path_cmp p)) put → content (kept gone below) p ≡ content (shown gone put below) p
kept_shows gone put below p e =
    sym (content_over put (kept gone below) p ∙ ap (λ o. option_or o (content (kept gone below) p)) (sym (e ∙ lookup_is_find p put)))

-- ---- what is present

some_or : (a b : Option (List ℕ)) → is_some (option_or a b) ≡ (is_some a || is_some b)
some_or None b = refl
some_or (Some x) b = refl

pub present_over : (put es : Entries) (q : Path) → is_present (put_over put es) q ≡ (is_present put q || is_present es q)
present_over put es q = ap is_some (content_over put es q) ∙ some_or (content put q) (content es q)

pub over_left : (put es : Entries) (q : Path) → is_present put q ≡ true → is_present (put_over put es) q ≡ true
over_left put es q h = present_over put es q ∙ or_left _ _ h

pub over_right : (put es : Entries) (q : Path) → is_present es q ≡ true → is_present (put_over put es) q ≡ true
over_right put es q h = present_over put es q ∙ or_right _ _ h

pub apart_put : (put es : Entries) → AreApart (put_over put es) → AreApart put
apart_put put es apart = λ p q hp hq. apart p q (over_left put es p hp) (over_left put es q hq)

kept_split : (g : Bool) (o : Option (List ℕ)) → is_some (cond g None o) ≡ true → (is_some o ≡ true) × (g ≡ false)
kept_split true o h = cc
kept_split false o h = (h, refl)

present_kept : (gone : List Path) (es : Entries) (q : Path) → is_present (kept gone es) q ≡ true → (is_present es q ≡ true) × (is_named gone q ≡ false)
present_kept gone es q h = kept_split (is_named gone q) (content es q) (ap is_some (sym (content_kept gone es q)) ∙ h)

kept_present : (gone : List Path) (es : Entries) (q : Path) → is_present es q ≡ true → is_named gone q ≡ false → is_present (kept gone es) q ≡ true
kept_present gone es q h g = ap is_some (content_kept gone es q ∙ ap (λ b. cond b None (content es q)) g) ∙ h

apart_kept : (gone : List Path) (es : Entries) → AreApart es → AreApart (kept gone es)
apart_kept gone es apart = λ p q hp hq. apart p q (present_kept gone es p hp).0 (present_kept gone es q hq).0

-- ---- above

pub above_kept : (gone : List Path) (es : Entries) (p q : Path) → AreApart es → file_above es p ≡ Some q → file_above (kept gone es) p ≡ cond (is_named gone q) None (Some q)
above_kept gone es p q apart e =
    let found = above_found es p q e in
    elim (is_named gone q) as (λ g. is_named gone q ≡ g → file_above (kept gone es) p ≡ cond g None (Some q)) [
      | true ↦ λ g. above_none (kept gone es) p (λ r h.
          let parts = present_kept gone es r h in
          elim (is_under p r) as (λ u. is_under p r ≡ u → u ≡ false) [
            | true ↦ λ u. absurd (clash (is_named gone r) (ap (is_named gone) (one_above es p r q apart parts.0 found.0 u found.1) ∙ g) parts.1)
            | false ↦ λ u. refl
          ] refl)
      | false ↦ λ g. above_is (kept gone es) p q (apart_kept gone es apart) (kept_present gone es q found.0 g) found.1
    ] refl

pub above_kept_none : (gone : List Path) (es : Entries) (p : Path) → file_above es p ≡ None → file_above (kept gone es) p ≡ None
above_kept_none gone es p e = above_none (kept gone es) p (λ r h. none_above es p r e (present_kept gone es r h).0)

pub above_over : (put es : Entries) (p : Path) → AreApart (put_over put es) → file_above (put_over put es) p ≡ option_or (file_above put p) (file_above es p)
above_over put es p apart =
    elim (file_above put p) as (λ a. file_above put p ≡ a → file_above (put_over put es) p ≡ option_or a (file_above es p)) [
      | Some q ↦ λ e. let found = above_found put p q e in above_is (put_over put es) p q apart (over_left put es q found.0) found.1
      | None ↦ λ e. elim (file_above es p) as (λ b. file_above es p ≡ b → file_above (put_over put es) p ≡ b) [
        | Some q ↦ λ f. let found = above_found es p q f in above_is (put_over put es) p q apart (over_right put es q found.0) found.1
        | None ↦ λ f. above_none (put_over put es) p (λ q h. elim (or_cases (is_present put q) (is_present es q) (sym (present_over put es q) ∙ h)) [
          | inl a ↦ none_above put p q e a
          | inr b ↦ none_above es p q f b
        ])
      ] refl
    ] refl

-- ---- under

or_again : (a r : Bool) → (a || r) ≡ (a || (a || r))
or_again true r = refl
or_again false r = refl

or_swapped : (a b r : Bool) → (a || (b || r)) ≡ (b || (a || r))
or_swapped true true r = refl
or_swapped true false r = refl
or_swapped false b r = refl

folder_put : (es : Entries) (k : Path) (v : List ℕ) (p : Path) → is_folder (put_file es k v) p ≡ (is_under k p || is_folder es p)
folder_put [] k v p = refl
folder_put (e ∷ es) k v p =
    elim (path_cmp k e.0) as (λ r. path_cmp k e.0 ≡ r → is_folder (by_order r ((k, v) ∷ e ∷ es) ((e.0, v) ∷ es) (e ∷ put_file es k v)) p ≡ (is_under k p || (is_under e.0 p || is_folder es p))) [
      | Less ↦ λ t. refl
      | Equal ↦ λ t. or_again (is_under e.0 p) (is_folder es p) ∙ ap (λ x. is_under x p || (is_under e.0 p || is_folder es p)) (sym (tied_path k e.0 t))
      | Greater ↦ λ t. ap (λ b. is_under e.0 p || b) (folder_put es k v p) ∙ or_swapped (is_under e.0 p) (is_under k p) (is_folder es p)
    ] refl

or_moved : (a b c : Bool) → (a || (b || c)) ≡ ((a || b) || c)
or_moved true b c = refl
or_moved false b c = refl

pub folder_over : (put es : Entries) (p : Path) → is_folder (put_over put es) p ≡ (is_folder put p || is_folder es p)
folder_over [] es p = refl
folder_over (e ∷ put) es p =
    folder_put (put_over put es) e.0 e.1 p ∙ ap (λ b. is_under e.0 p || b) (folder_over put es p) ∙ or_moved (is_under e.0 p) (is_folder put p) (is_folder es p)

not_none : (n : ℕ) → suc n ≡ 0 → ⊥
not_none n e = omega arith

some_there : (n : ℕ) → not (nat_eq (suc n) 0) ≡ true
some_there n =
    elim (nat_eq (suc n) 0) as (λ b. nat_eq (suc n) 0 ≡ b → not b ≡ true) [
      | true ↦ λ e. absurd (not_none n (eqb-true (suc n) 0 e))
      | false ↦ λ e. refl
    ] refl

-- a path is a folder where some path is under it
pub folder_paths : (es : Entries) (p : Path) → not (nat_eq (length (paths_under es p)) 0) ≡ is_folder es p
folder_paths [] p = refl
folder_paths (e ∷ es) p =
    let rest = where_key path_cmp (λ q. is_under q p) es in
    elim (is_under e.0 p) as (λ u. not (nat_eq (length (map (λ (x : Path × List ℕ). x.0) (cond u (e ∷ rest) rest))) 0) ≡ (u || is_folder es p)) [ true ↦ some_there (length (map (λ (x : Path × List ℕ). x.0) rest)) | false ↦ folder_paths es p ]

-- the paths under one that aren't gone
pub paths_kept : (gone : List Path) (es : Entries) (p : Path) → filter (λ q. not (is_named gone q)) (paths_under es p) ≡ paths_under (kept gone es) p
paths_kept gone [] p = refl
paths_kept gone (e ∷ es) p =
    let more = paths_kept gone es p in
    let f = λ (q : Path). not (is_named gone q) in
    let rest = where_key path_cmp (λ q. is_under q p) es in
    elim (is_under e.0 p) as (λ u. is_under e.0 p ≡ u → filter f (map (λ x. x.0) (cond u (e ∷ rest) rest)) ≡ paths_under (cond (f e.0) (e ∷ kept gone es) (kept gone es)) p) [
      | true ↦ λ u. elim (f e.0) as (λ g. cond g (e.0 ∷ filter f (paths_under es p)) (filter f (paths_under es p)) ≡ paths_under (cond g (e ∷ kept gone es) (kept gone es)) p) [
        | true ↦ ap (λ t. e.0 ∷ t) more ∙ ap (λ b. map (λ (x : Path × List ℕ). x.0) (cond b (e ∷ where_key path_cmp (λ q. is_under q p) (kept gone es)) (where_key path_cmp (λ q. is_under q p) (kept gone es)))) (sym u)
        | false ↦ more
      ]
      | false ↦ λ u. elim (f e.0) as (λ g. filter f (paths_under es p) ≡ paths_under (cond g (e ∷ kept gone es) (kept gone es)) p) [
        | true ↦ more ∙ ap (λ b. map (λ (x : Path × List ℕ). x.0) (cond b (e ∷ where_key path_cmp (λ q. is_under q p) (kept gone es)) (where_key path_cmp (λ q. is_under q p) (kept gone es)))) (sym u)
        | false ↦ more
      ]
    ] refl
