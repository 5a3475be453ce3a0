-- Paths of two lists put together, and the changes of an overlay.
use Rattle.std.proofs.Common.{◌≡◌, ℕ, Bool, true, false, cond, not, ◌||◌, List, [], ◌∷◌, map, Option, Some, None, MatchOption, refl, sym, ap, subst, ◌∙◌}
use Rattle.std.specs.Prelude.{is_some, flat_map}
use Rattle.std.specs.Option.{option_or, option_map}
use Rattle.std.specs.List.{AllByRecursion}
use Rattle.std.specs.BTreeSet.{insert_key}
use Rattle.std.specs.Ordering.{eq_by_cmp, match_ordering}
use Rattle.std.specs.declared.cmp.Ordering.TheVariants.{Less, Equal, Greater}
use Rattle.std.specs.FinMap.{find, put, is_sorted}
use Rattle.std.specs.FinMap.Entries.{by_order, where_key}
use Rattle.wse_path.specs.Path.{Path, is_under}
use Rattle.wse_path.specs.Order.{path_cmp, is_named}
use Rattle.wse_path.specs.Tree.{Entries, content, is_present, paths_under}
use Rattle.wse_path.specs.Changes.{change_to, changes_between}
use Rattle.wse_path.specs.PathMap.{put_each}
use Rattle.wse_overlay.specs.Overlay.{kept, put_over, shown, marked, without_content, with_content}
use Rattle.wse_path.proofs.PutLemmas.{find_where, sorted_where, sorted_put_each, find_put_each, each_found, has_put_each, has_same_keys}
use Rattle.wse_path.proofs.GatheredLemmas.{same_keys, changes_given}
use Rattle.wse_overlay.proofs.ShownLemmas.{content_shown, rises_shown, present_over}

-- ---- paths of two lists

-- what a set of std does is what `put` does to marked paths
pub marked_insert : (ks : List Path) (k : Path) → marked (insert_key path_cmp ks k) ≡ put path_cmp k 0 (marked ks)
marked_insert [] k = refl
marked_insert (x ∷ ks) k =
    elim (path_cmp k x) as (λ o. marked (match_ordering o (k ∷ x ∷ ks) (x ∷ ks) (x ∷ insert_key path_cmp ks k)) ≡ by_order o ((k, 0) ∷ (x, 0) ∷ marked ks) ((x, 0) ∷ marked ks) ((x, 0) ∷ put path_cmp k 0 (marked ks))) [
      | Less ↦ refl
      | Equal ↦ refl
      | Greater ↦ ap (λ t. (x, 0) ∷ t) (marked_insert ks k)
    ]

keys_marked : (ks : List Path) → map (λ e. e.0) (marked ks) ≡ ks
keys_marked [] = refl
keys_marked (k ∷ ks) = ap (λ t. k ∷ t) (keys_marked ks)

has_marked : (es : Entries) (q : Path) → is_some (find path_cmp q (marked (map (λ e. e.0) es))) ≡ is_present es q
has_marked [] q = refl
has_marked (e ∷ es) q =
    elim (eq_by_cmp path_cmp q e.0) as (λ b. is_some (cond b (Some 0) (find path_cmp q (marked (map (λ x. x.0) es)))) ≡ is_some (cond b (Some e.1) (find path_cmp q es))) [ true ↦ refl | false ↦ has_marked es q ]

or_turned : (a b : Bool) → (a || b) ≡ (b || a)
or_turned true true = refl
or_turned true false = refl
or_turned false true = refl
or_turned false false = refl

under_both : (u : Bool) (a b c : Option (List ℕ)) → is_some c ≡ (is_some b || is_some a) → (is_some (cond u a None) || is_some (cond u b None)) ≡ is_some (cond u c None)
under_both true a b c e = or_turned (is_some a) (is_some b) ∙ sym e
under_both false a b c e = refl

abbrev under : Path → Entries → Entries
under p es = where_key path_cmp (λ q. is_under q p) es

has_merged : (put below : Entries) (p q : Path) → is_some (find path_cmp q (put_each (marked (paths_under put p)) (put_each (marked (paths_under below p)) []))) ≡ is_some (find path_cmp q (under p (put_over put below)))
has_merged put below p q =
    has_put_each (marked (paths_under put p)) (put_each (marked (paths_under below p)) []) q
    ∙ (λ i. (has_put_each (marked (paths_under below p)) [] q ∙ has_marked (under p below) q) i || has_marked (under p put) q i)
    ∙ (λ i. is_some (find_where (λ x. is_under x p) q below i) || is_some (find_where (λ x. is_under x p) q put i))
    ∙ under_both (is_under q p) (content below q) (content put q) (content (put_over put below) q) (present_over put below q)
    ∙ ap is_some (sym (find_where (λ x. is_under x p) q (put_over put below)))

-- the paths under one of what is left and of what was put are those of what is shown
pub merged : (gone : List Path) (put below : Entries) (p : Path) (keys : List Path) → is_sorted path_cmp below ≡ true
    → marked keys ≡ put_each (marked (paths_under put p)) (put_each (marked (paths_under (kept gone below) p)) []) → keys ≡ paths_under (shown gone put below) p
merged gone put below p keys s is =
    sym (keys_marked keys)
    ∙ ap (λ (es : List (Path × ℕ)). map (λ e. e.0) es) is
    ∙ same_keys (put_each (marked (paths_under put p)) (put_each (marked (paths_under (kept gone below) p)) [])) (under p (shown gone put below))
    (sorted_put_each (marked (paths_under put p)) (put_each (marked (paths_under (kept gone below) p)) []) (sorted_put_each (marked (paths_under (kept gone below) p)) [] refl))
    (sorted_where (λ q. is_under q p) (shown gone put below) (rises_shown gone put below s))
    (has_merged put (kept gone below) p)

-- where nothing was put under a path, the paths under it are those that are left
pub only_kept : (gone : List Path) (put below : Entries) (p : Path) → is_sorted path_cmp below ≡ true
    → paths_under put p ≡ [] → paths_under (kept gone below) p ≡ paths_under (shown gone put below) p
only_kept gone put below p s none =
    let left = kept gone below in
    same_keys (under p left) (under p (shown gone put below))
    (sorted_where (λ q. is_under q p) left (sorted_where (λ q. not (is_named gone q)) below s))
    (sorted_where (λ q. is_under q p) (shown gone put below) (rises_shown gone put below s))
    (λ q. sym (has_put_each (marked (paths_under left p)) [] q ∙ has_marked (under p left) q)
    ∙ ap (λ (ps : List Path). is_some (find path_cmp q (put_each (marked ps) (put_each (marked (paths_under left p)) [])))) (sym none)
    ∙ has_merged put left p q)

-- ---- the changes

has_without : (gone : List Path) (q : Path) → is_some (find path_cmp q (without_content gone)) ≡ is_named gone q
has_without [] q = refl
has_without (p ∷ gone) q =
    elim (eq_by_cmp path_cmp q p) as (λ b. is_some (cond b (Some None) (find path_cmp q (without_content gone))) ≡ (b || is_named gone q)) [ true ↦ refl | false ↦ has_without gone q ]

each_without : (gone : List Path) → AllByRecursion (λ (e : Path × Option (List ℕ)). Some None ≡ Some e.1) (without_content gone)
each_without [] = tt
each_without (p ∷ gone) = (refl, each_without gone)

each_with : (h : Path → Option (List ℕ)) (es : Entries) → AllByRecursion (λ e. h e.0 ≡ Some e.1) es → AllByRecursion (λ (e : Path × Option (List ℕ)). option_map (λ v. Some v) (h e.0) ≡ Some e.1) (with_content es)
each_with h [] all = tt
each_with h (e ∷ es) all = (ap (option_map (λ v. Some v)) all.0, each_with h es all.1)

abbrev new_contents : (gone : List Path) → (put : Entries) → List (Path × Option (List ℕ))
new_contents gone put = put_each (with_content put) (put_each (without_content gone) [])

find_new : (gone : List Path) (put : Entries) (q : Path) → is_sorted path_cmp put ≡ true → find path_cmp q (new_contents gone put) ≡ cond (is_some (content put q)) (option_map (λ v. Some v) (content put q)) (cond (is_named gone q) (Some None) None)
find_new gone put q s =
    find_put_each (λ x. option_map (λ v. Some v) (content put x)) (with_content put) (put_each (without_content gone) []) q (each_with (content put) put (each_found (content put) put s (λ x v e. e)))
    ∙ (λ i. cond (has_same_keys (λ e. Some e.1) put q i) (option_map (λ v. Some v) (content put q)) ((find_put_each (λ _. Some None) (without_content gone) [] q (each_without gone) ∙ ap (λ b. cond b (Some None) None) (has_without gone q)) i))

new_is : (put : Option (List ℕ)) (g : Bool) (below : Option (List ℕ)) → MatchOption (cond (is_some put) (option_map (λ v. Some v) put) (cond g (Some None) None)) (option_or put (cond g None below) ≡ below) (λ a. option_or put (cond g None below) ≡ a)
new_is (Some v) g below = refl
new_is None true below = refl
new_is None false below = refl

-- what was put and what is gone makes the changes from the tree below to what is shown
pub changes_shown : (gone : List Path) (put below : Entries) → is_sorted path_cmp below ≡ true → is_sorted path_cmp put ≡ true → flat_map (change_to below) (new_contents gone put) ≡ changes_between below (shown gone put below)
changes_shown gone put below s t =
    changes_given below (shown gone put below) (new_contents gone put) s (sorted_put_each (with_content put) (put_each (without_content gone) []) (sorted_put_each (without_content gone) [] refl))
    (λ q. subst (λ o. MatchOption o (content (shown gone put below) q ≡ content below q) (λ a. content (shown gone put below) q ≡ a)) (sym (find_new gone put q t))
    (subst (λ c. MatchOption (cond (is_some (content put q)) (option_map (λ v. Some v) (content put q)) (cond (is_named gone q) (Some None) None)) (c ≡ content below q) (λ a. c ≡ a)) (sym (content_shown gone put below q))
    (new_is (content put q) (is_named gone q) (content below q))))
