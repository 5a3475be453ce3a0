-- Entries put one after another, and what is found among them.
use Rattle.std.proofs.Common.{◌≡◌, Bool, true, false, cond, ◌&&◌, ◌||◌, List, [], ◌∷◌, map, Option, Some, None, refl, sym, ap, ◌∙◌}
use Rattle.std.specs.Prelude.{is_some}
use Rattle.std.specs.List.{AllByRecursion}
use Rattle.std.specs.List.Sorted.{IsStrictlySortedBy}
use Rattle.std.specs.Map.{keys_of}
use Rattle.std.specs.FinMap.{find, put, is_sorted}
use Rattle.std.specs.FinMap.Entries.{find-put, find-where_key, is_sorted-put, is_sorted-where_key, where_key, below_all}
use Rattle.std.specs.Cmp.Lexicographic.{lists_total, nat_list_cmp_total}
use Rattle.std.specs.declared.cmp.Ordering.TheVariants.{Less, Equal, Greater}
use Rattle.std.specs.Ordering.{eq_by_cmp, is_eq, is_lt, match_ordering}
use Rattle.std.specs.BTreeMap.{insert_entry}
use Rattle.std.specs.FinMap.Entries.{by_order}
use Rattle.wse_path.specs.Path.{Path}
use Rattle.wse_path.specs.Order.{path_cmp}
use Rattle.wse_path.specs.Tree.{Entries, is_present, put_all}
use Rattle.wse_path.specs.PathMap.{put_each}
use Rattle.wse_path.proofs.EntryLemmas.{and_parts, less_so, so, to_so}
use Rattle.wse_path.proofs.TreeLemmas.{same_path, tied_itself}

-- paths that tie pass a test alike
pub alike : (f : Path → Bool) (q x : Path) → path_cmp q x ≡ Equal → f x ≡ f q
alike f q x t = ap f (sym (same_path q x (ap is_eq t)))

pub find_where : {X : Type 0} (f : Path → Bool) (q : Path) (es : List (Path × X)) → find path_cmp q (where_key path_cmp f es) ≡ cond (f q) (find path_cmp q es) None
find_where f q es = find-where_key path_cmp f q (alike f q) es

pub sorted_where : {X : Type 0} (f : Path → Bool) (es : List (Path × X)) → is_sorted path_cmp es ≡ true → is_sorted path_cmp (where_key path_cmp f es) ≡ true
sorted_where f es s = so _ (is_sorted-where_key path_cmp f es (to_so _ s))

pub sorted_put : {X : Type 0} (k : Path) (v : X) (es : List (Path × X)) → is_sorted path_cmp es ≡ true → is_sorted path_cmp (put path_cmp k v es) ≡ true
sorted_put k v es s = so _ (is_sorted-put path_cmp (lists_total nat_list_cmp_total) k v es (to_so _ s))

pub sorted_put_each : {X : Type 0} (xs es : List (Path × X)) → is_sorted path_cmp es ≡ true → is_sorted path_cmp (put_each xs es) ≡ true
sorted_put_each [] es s = s
sorted_put_each (x ∷ xs) es s = sorted_put_each xs (put path_cmp x.0 x.1 es) (sorted_put x.0 x.1 es s)

pub put_all_is : (xs es : Entries) → put_all xs es ≡ put_each xs es
put_all_is [] es = refl
put_all_is (x ∷ xs) es = put_all_is xs (put path_cmp x.0 x.1 es)

-- what a map of std does is what `put` does
pub insert_is_put : {X : Type 0} (es : List (Path × X)) (k : Path) (v : X) → insert_entry path_cmp es k v ≡ put path_cmp k v es
insert_is_put [] k v = refl
insert_is_put (e ∷ es) k v =
    elim (path_cmp k e.0) as (λ o. match_ordering o ((k, v) ∷ e ∷ es) ((e.0, v) ∷ es) (e ∷ insert_entry path_cmp es k v) ≡ by_order o ((k, v) ∷ e ∷ es) ((e.0, v) ∷ es) (e ∷ put path_cmp k v es)) [
      | Less ↦ refl
      | Equal ↦ refl
      | Greater ↦ ap (λ t. e ∷ t) (insert_is_put es k v)
    ]

last_put : {X : Type 0} (b : Bool) (o : Option X) (v : X) → o ≡ Some v → cond b o (Some v) ≡ o
last_put true o v e = refl
last_put false o v e = sym e

-- where each entry is what `h` has at its key, each key finds that after all were put
pub find_put_each : {X : Type 0} (h : Path → Option X) (xs es : List (Path × X)) (q : Path) → AllByRecursion (λ x. h x.0 ≡ Some x.1) xs → find path_cmp q (put_each xs es) ≡ cond (is_some (find path_cmp q xs)) (h q) (find path_cmp q es)
find_put_each h [] es q all = refl
find_put_each h (x ∷ xs) es q all =
    find_put_each h xs (put path_cmp x.0 x.1 es) q all.1
    ∙ ap (cond (is_some (find path_cmp q xs)) (h q)) (find-put path_cmp (lists_total nat_list_cmp_total) q x.0 x.1 es)
    ∙ elim (eq_by_cmp path_cmp q x.0) as (λ b. eq_by_cmp path_cmp q x.0 ≡ b → cond (is_some (find path_cmp q xs)) (h q) (cond b (Some x.1) (find path_cmp q es)) ≡ cond (is_some (cond b (Some x.1) (find path_cmp q xs))) (h q) (find path_cmp q es)) [
      | true ↦ λ t. last_put _ (h q) x.1 (ap h (same_path q x.0 t) ∙ all.0)
      | false ↦ λ t. refl
    ] refl

none_some : {X : Type 0} (v : X) → None ≡ Some v → ⊥
none_some v e = cc

pub below_so : {X : Type 0} (q : Path) (es : List (Path × X)) → below_all path_cmp q es ≡ true → find path_cmp q es ≡ None
below_so q [] h = refl
below_so q (e ∷ es) h =
    let parts = and_parts (is_lt (path_cmp q e.0)) (below_all path_cmp q es) h in
    ap (λ o. cond (is_eq o) (Some e.1) (find path_cmp q es)) (less_so _ parts.0) ∙ below_so q es parts.1

-- each entry of a sorted list is what is found at its key
pub each_found : {X : Type 0} (h : Path → Option X) (es : List (Path × X)) → is_sorted path_cmp es ≡ true → ((q : Path) (v : X) → find path_cmp q es ≡ Some v → h q ≡ Some v) → AllByRecursion (λ e. h e.0 ≡ Some e.1) es
each_found h [] s found = tt
each_found h (e ∷ es) s found =
    let parts = and_parts (below_all path_cmp e.0 es) (is_sorted path_cmp es) s in (
      found e.0 e.1 (ap (λ b. cond b (Some e.1) (find path_cmp e.0 es)) (tied_itself e.0)),
      each_found h es parts.1 (λ q v is. found q v (elim (eq_by_cmp path_cmp q e.0) as (λ b. eq_by_cmp path_cmp q e.0 ≡ b → cond b (Some e.1) (find path_cmp q es) ≡ Some v) [
        | true ↦ λ t. absurd (none_some v (sym (below_so e.0 es parts.0) ∙ ap (λ k. find path_cmp k es) (sym (same_path q e.0 t)) ∙ is))
        | false ↦ λ t. is
      ] refl)),
    )

-- what passes a test of keys does so
pub each_passes : {X : Type 0} (f : Path → Bool) (es : List (Path × X)) → AllByRecursion (λ e. f e.0 ≡ true) (where_key path_cmp f es)
each_passes f [] = tt
each_passes f (e ∷ es) =
    elim (f e.0) as (λ b. f e.0 ≡ b → AllByRecursion (λ x. f x.0 ≡ true) (cond b (e ∷ where_key path_cmp f es) (where_key path_cmp f es))) [
      | true ↦ λ t. (t, each_passes f es)
      | false ↦ λ t. each_passes f es
    ] refl

-- another value at each key
pub has_same_keys : {X Y : Type 0} (v : Path × X → Y) (es : List (Path × X)) (q : Path) → is_some (find path_cmp q (map (λ e. (e.0, v e)) es)) ≡ is_some (find path_cmp q es)
has_same_keys v [] q = refl
has_same_keys v (e ∷ es) q =
    elim (eq_by_cmp path_cmp q e.0) as (λ b. is_some (cond b (Some (v e)) (find path_cmp q (map (λ x. (x.0, v x)) es))) ≡ is_some (cond b (Some e.1) (find path_cmp q es))) [ true ↦ refl | false ↦ has_same_keys v es q ]

has_put : {X : Type 0} (t : Bool) (a b : Option X) (x : X) → (is_some (cond t (Some x) a) || is_some b) ≡ (is_some a || is_some (cond t (Some x) b))
has_put true None b x = refl
has_put true (Some y) b x = refl
has_put false a b x = refl

-- a key is there after a put of all just if it was, or is among them
pub has_put_each : {X : Type 0} (xs es : List (Path × X)) (q : Path) → is_some (find path_cmp q (put_each xs es)) ≡ (is_some (find path_cmp q es) || is_some (find path_cmp q xs))
has_put_each [] es q = elim (is_some (find path_cmp q es)) as (λ b. b ≡ (b || false)) [ true ↦ refl | false ↦ refl ]
has_put_each (x ∷ xs) es q =
    has_put_each xs (put path_cmp x.0 x.1 es) q
    ∙ ap (λ o. is_some o || is_some (find path_cmp q xs)) (find-put path_cmp (lists_total nat_list_cmp_total) q x.0 x.1 es)
    ∙ has_put (eq_by_cmp path_cmp q x.0) (find path_cmp q es) (find path_cmp q xs) x.1

pub has_put_all : (xs es : Entries) (q : Path) → is_present (put_all xs es) q ≡ (is_present es q || is_present xs q)
has_put_all xs es q = ap (λ l. is_present l q) (put_all_is xs es) ∙ has_put_each xs es q

-- ---- the order of a map of std

below_ordered : {X : Type 0} (x : Path) (es : List (Path × X)) → AllByRecursion (λ y. path_cmp x y ≡ Less) (keys_of es) → below_all path_cmp x es ≡ true
below_ordered x [] all = refl
below_ordered x (e ∷ es) all = ap (λ o. is_lt o && below_all path_cmp x es) all.0 ∙ below_ordered x es all.1

pub sorted_ordered : {X : Type 0} (es : List (Path × X)) → IsStrictlySortedBy path_cmp (keys_of es) → is_sorted path_cmp es ≡ true
unfolding IsStrictlySortedBy
sorted_ordered [] o = refl
sorted_ordered (e ∷ es) o = ap (λ b. b && is_sorted path_cmp es) (below_ordered e.0 es o.0) ∙ sorted_ordered es o.1
