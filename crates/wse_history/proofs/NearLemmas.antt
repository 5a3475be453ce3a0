-- Files that are above or under paths, kept one by one.
use Rattle.std.proofs.Common.{◌≡◌, ℕ, ◌+◌, ◌<◌, Bool, true, false, cond, not, ◌&&◌, ◌||◌, List, [], ◌∷◌, ◌++◌, map, length, take, get_or, Option, Some, None, is_some, refl, sym, ap, subst, ◌∙◌}
use Rattle.std.specs.Prelude.{filter}
use Rattle.std.specs.List.{list_any}
use Rattle.std.specs.List.Sorted.{IsStrictlySortedBy}
use Rattle.std.specs.FinMap.{find, is_sorted}
use Rattle.std.specs.FinMap.Entries.{where_key, find-where_key}
use Rattle.std.specs.Ordering.{eq_by_cmp}
use Rattle.std.proofs.lemmas.Bool.{and_from}
use Rattle.std.proofs.lemmas.List.{take_more}
use Rattle.wse_path.specs.Path.{Path, is_under}
use Rattle.wse_path.specs.Order.{path_cmp}
use Rattle.wse_path.specs.Tree.{Entries, content, is_present, file_above, paths_under, IsTree}
use Rattle.wse_overlay.proofs.AboveLemmas.{above_found, none_above, one_above}
use Rattle.wse_path.proofs.EntryLemmas.{and_parts}
use Rattle.wse_path.proofs.GatheredLemmas.{same_keys}
use Rattle.wse_path.proofs.PutLemmas.{sorted_ordered}
use Rattle.wse_path.proofs.PathOrder.{same_path, tied_path}
use Rattle.wse_locks.proofs.LockLemmas.{kept, sorted_filter, find_filter}
use Rattle.wse_element.specs.Content.{Content}
use Rattle.wse_element.proofs.LiveLemmas.{eq_itself}
use Rattle.wse_element.specs.Way.{comes, is_set, is_between, in_the_way}
use Rattle.wse_history.specs.Marks.{marks_of, is_marked, is_near_marked, marked_in_the_way}

bool_same : (a b : Bool) → (a ≡ true → b ≡ true) → (b ≡ true → a ≡ true) → a ≡ b
bool_same true b f g = sym (f refl)
bool_same false true f g = g refl
bool_same false false f g = refl

-- whether two paths are equal doesn't depend on their order
pub flip : (p q : Path) → eq_by_cmp path_cmp p q ≡ eq_by_cmp path_cmp q p
flip p q =
    bool_same (eq_by_cmp path_cmp p q) (eq_by_cmp path_cmp q p)
    (λ e. subst (λ x. eq_by_cmp path_cmp x p ≡ true) (same_path p q e) (eq_itself p))
    (λ e. subst (λ x. eq_by_cmp path_cmp x q ≡ true) (same_path q p e) (eq_itself q))

pub or_is : (b x : Bool) → cond b true x ≡ (b || x)
or_is true x = refl
or_is false x = refl

pub and_not : (b x : Bool) → cond b false x ≡ (not b && x)
and_not true x = refl
and_not false x = refl

or_none : (b : Bool) → (b || false) ≡ b
or_none true = refl
or_none false = refl

or_swap : (e y i : Bool) → (e || (y || i)) ≡ ((y || (e || false)) || i)
or_swap true true i = refl
or_swap true false i = refl
or_swap false true i = refl
or_swap false false i = refl

or_assoc : (a b c : Bool) → (a || (b || c)) ≡ ((a || b) || c)
or_assoc true b c = refl
or_assoc false b c = refl

any_more : {X : Type 0} (test : X → Bool) (xs ys : List X) → list_any test (xs ++ ys) ≡ (list_any test xs || list_any test ys)
any_more test [] ys = refl
any_more test (x ∷ xs) ys = ap (λ b. test x || b) (any_more test xs ys) ∙ or_assoc (test x) (list_any test xs) (list_any test ys)

-- one path more is kept
pub kept_more : (p q : Path) (before : List Path) (first now : Bool) → now ≡ (eq_by_cmp path_cmp p q || (list_any (λ x. eq_by_cmp path_cmp q x) before || first))
    → now ≡ (list_any (λ x. eq_by_cmp path_cmp q x) (before ++ p ∷ []) || first)
kept_more p q before first now is =
    is
    ∙ ap (λ b. b || (list_any (λ x. eq_by_cmp path_cmp q x) before || first)) (flip p q)
    ∙ or_swap (eq_by_cmp path_cmp q p) (list_any (λ x. eq_by_cmp path_cmp q x) before) first
    ∙ ap (λ b. b || first) (sym (any_more (λ x. eq_by_cmp path_cmp q x) before (p ∷ [])))

-- ---- above and under

pub above_some : (files : Entries) (p file q : Path) → IsTree files → file_above files p ≡ Some file → eq_by_cmp path_cmp file q ≡ (is_present files q && is_under p q)
above_some files p file q tree is =
    let found = above_found files p file is in
    bool_same (eq_by_cmp path_cmp file q) (is_present files q && is_under p q)
    (λ e. subst (λ x. (is_present files x && is_under p x) ≡ true) (same_path file q e) (and_from (is_present files file) (is_under p file) found.0 found.1))
    (λ h. let both = and_parts (is_present files q) (is_under p q) h in
    subst (λ x. eq_by_cmp path_cmp file x ≡ true) (one_above files p file q tree.apart found.0 both.0 found.1 both.1) (eq_itself file))

pub above_no : (files : Entries) (p q : Path) → file_above files p ≡ None → (is_present files q && is_under p q) ≡ false
above_no files p q none =
    elim (is_present files q) as (λ b. is_present files q ≡ b → (b && is_under p q) ≡ false) [ true ↦ λ h. none_above files p q none h | false ↦ λ h. refl ] refl

any_paths : (q : Path) (es : Entries) → list_any (λ x. eq_by_cmp path_cmp q x) (map (λ e. e.0) es) ≡ is_present es q
any_paths q [] = refl
any_paths q (e ∷ es) =
    elim (eq_by_cmp path_cmp q e.0) as (λ b. (b || list_any (λ x. eq_by_cmp path_cmp q x) (map (λ x. x.0) es)) ≡ is_some (cond b (Some e.1) (content es q))) [ true ↦ refl | false ↦ any_paths q es ]

some_where : (b : Bool) (o : Option (List ℕ)) → is_some (cond b o None) ≡ (is_some o && b)
some_where true None = refl
some_where true (Some x) = refl
some_where false None = refl
some_where false (Some x) = refl

pub under_all : (files : Entries) (p q : Path) → list_any (λ x. eq_by_cmp path_cmp q x) (paths_under files p) ≡ (is_present files q && is_under q p)
under_all files p q =
    any_paths q (where_key path_cmp (λ x. is_under x p) files)
    ∙ ap is_some (find-where_key path_cmp (λ x. is_under x p) q (λ x e. ap (λ y. is_under y p) (sym (tied_path q x e))) files)
    ∙ some_where (is_under q p) (content files q)

-- ---- one mark more

pub near_none : (here first : Bool) (near : Bool) → first ≡ ((here && ((false && near) || false)) || first)
near_none true first near = refl
near_none false first near = refl

pub near_both : (here above under first : Bool) → ((here && above) || ((here && under) || first)) ≡ ((here && ((true && (above || under)) || false)) || first)
near_both false above under first = refl
near_both true true under first = refl
near_both true false true first = refl
near_both true false false first = refl

near_step : (here one before : Bool) → ((here && one) || (here && before)) ≡ (here && (before || one))
near_step false one before = refl
near_step true true true = refl
near_step true true false = refl
near_step true false true = refl
near_step true false false = refl

pub near_more : (here now : Bool) (m : Path × Bool) (q : Path) (marks : List (Path × Bool)) (i : ℕ) → i < length marks → m ≡ get_or marks i m
    → now ≡ ((here && is_near_marked (m ∷ []) q) || (here && is_near_marked (take i marks) q)) → now ≡ (here && is_near_marked (take (i + 1) marks) q)
near_more here now m q marks i within at is =
    let test : Path × Bool → Bool = λ x. x.1 && (is_under q x.0 || is_under x.0 q) in
    is
    ∙ near_step here (is_near_marked (m ∷ []) q) (is_near_marked (take i marks) q)
    ∙ ap (λ b. here && b) (sym (any_more test (take i marks) (m ∷ [])))
    ∙ ap (λ (ms : List (Path × Bool)). here && is_near_marked ms q) (ap (λ (x : Path × Bool). take i marks ++ x ∷ []) at ∙ sym (take_more marks i m within))

left_step : (e y i : Bool) → (not e && (not y && i)) ≡ (not (y || (e || false)) && i)
left_step true true i = refl
left_step true false i = refl
left_step false true i = refl
left_step false false i = refl

pub left_out_more : (first now : Bool) (m : Path × Bool) (q : Path) (marks : List (Path × Bool)) (i : ℕ) → i < length marks → m ≡ get_or marks i m
    → now ≡ (not (eq_by_cmp path_cmp m.0 q) && (not (is_marked (take i marks) q) && first)) → now ≡ (not (is_marked (take (i + 1) marks) q) && first)
left_out_more first now m q marks i within at is =
    let test : Path × Bool → Bool = λ x. eq_by_cmp path_cmp q x.0 in
    is
    ∙ ap (λ b. not b && (not (is_marked (take i marks) q) && first)) (flip m.0 q)
    ∙ left_step (eq_by_cmp path_cmp q m.0) (is_marked (take i marks) q) first
    ∙ ap (λ b. not b && first) (sym (any_more test (take i marks) (m ∷ [])))
    ∙ ap (λ (ms : List (Path × Bool)). not (is_marked ms q) && first) (ap (λ (x : Path × Bool). take i marks ++ x ∷ []) at ∙ sym (take_more marks i m within))

-- ---- the whole list

abbrev pub keyed : List Path → List (Path × ℕ)
keyed [] = []
keyed (p ∷ ps) = (p, 0) ∷ keyed ps

keys_keyed : (ps : List Path) → map (λ e. e.0) (keyed ps) ≡ ps
keys_keyed [] = refl
keys_keyed (p ∷ ps) = ap (λ qs. p ∷ qs) (keys_keyed ps)

found_keyed : (q : Path) (ps : List Path) → is_some (find path_cmp q (keyed ps)) ≡ list_any (λ x. eq_by_cmp path_cmp q x) ps
found_keyed q [] = refl
found_keyed q (p ∷ ps) =
    elim (eq_by_cmp path_cmp q p) as (λ b. is_some (cond b (Some 0) (find path_cmp q (keyed ps))) ≡ (b || list_any (λ x. eq_by_cmp path_cmp q x) ps)) [ true ↦ refl | false ↦ found_keyed q ps ]

paths_filtered : (test : Path → Bool) (es : Entries) → map (λ e. e.0) (filter (λ e. test e.0) es) ≡ filter test (map (λ e. e.0) es)
paths_filtered test [] = refl
paths_filtered test (e ∷ es) =
    elim (test e.0) as (λ b. map (λ x. x.0) (cond b (e ∷ filter (λ x. test x.0) es) (filter (λ x. test x.0) es)) ≡ cond b (e.0 ∷ filter test (map (λ x. x.0) es)) (filter test (map (λ x. x.0) es))) [
      | true ↦ ap (λ ps. e.0 ∷ ps) (paths_filtered test es)
      | false ↦ paths_filtered test es
    ]

pub sorted_keyed : (ps : List Path) → IsStrictlySortedBy path_cmp ps → is_sorted path_cmp (keyed ps) ≡ true
sorted_keyed ps s = sorted_ordered (keyed ps) (subst (IsStrictlySortedBy path_cmp) (sym (keys_keyed ps)) s)

some_kept : (b : Bool) (o : Option (List ℕ)) → is_some (kept (λ v. b) o) ≡ (is_some o && b)
some_kept b None = refl
some_kept true (Some v) = refl
some_kept false (Some v) = refl

and_turn : (a b c : Bool) → (a && (b && c)) ≡ (b && (a && c))
and_turn true true c = refl
and_turn true false c = refl
and_turn false true c = refl
and_turn false false c = refl

-- paths that rise, and are those of the files that are in the way, are these in path order
pub way_is : (files : Entries) (marks : List (Path × Bool)) (keys : List Path) → IsTree files → is_sorted path_cmp (keyed keys) ≡ true
    → ((q : Path) → list_any (λ x. eq_by_cmp path_cmp q x) keys ≡ (not (is_marked marks q) && (is_present files q && is_near_marked marks q))) → keys ≡ marked_in_the_way files marks
way_is files marks keys tree sorted alike =
    let test : Path → Bool = λ p. not (is_marked marks p) && is_near_marked marks p in
    sym (keys_keyed keys)
    ∙ same_keys (keyed keys) (filter (λ e. test e.0) files) sorted (sorted_filter (λ e. test e.0) files tree.rises)
    (λ q. found_keyed q keys ∙ alike q ∙ and_turn (not (is_marked marks q)) (is_present files q) (is_near_marked marks q)
    ∙ sym (ap is_some (find_filter (λ e. test e.0) files q tree.rises) ∙ some_kept (test q) (content files q)))
    ∙ paths_filtered test files

-- ---- contents by their marks

set_marked : (contents : List (Path × Content)) (p : Path) → is_marked (marks_of contents) p ≡ is_set contents p
set_marked [] p = refl
set_marked (c ∷ contents) p = ap (λ b. eq_by_cmp path_cmp p c.0 || b) (set_marked contents p)

near_marked : (contents : List (Path × Content)) (p : Path) → is_near_marked (marks_of contents) p ≡ is_between contents p
near_marked [] p = refl
near_marked (c ∷ contents) p = ap (λ b. (comes c && (is_under p c.0 || is_under c.0 p)) || b) (near_marked contents p)

filter_alike : (f g : Path → Bool) → ((p : Path) → f p ≡ g p) → (ps : List Path) → filter f ps ≡ filter g ps
filter_alike f g same [] = refl
filter_alike f g same (p ∷ ps) = λ i. cond (same p i) (p ∷ filter_alike f g same ps i) (filter_alike f g same ps i)

-- files in the way of contents are those in the way of their marks
pub way_of_marks : (files : Entries) (contents : List (Path × Content)) → marked_in_the_way files (marks_of contents) ≡ in_the_way files contents
way_of_marks files contents =
    filter_alike (λ p. not (is_marked (marks_of contents) p) && is_near_marked (marks_of contents) p) (λ p. not (is_set contents p) && is_between contents p)
    (λ p i. not (set_marked contents p i) && near_marked contents p i) (map (λ e. e.0) files)
