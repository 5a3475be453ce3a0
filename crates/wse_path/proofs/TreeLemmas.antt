-- What an edit leaves in order.
use Rattle.std.specs.FinMap.{find}
use Rattle.std.specs.List.{list_any}
use Rattle.std.specs.Prelude.{is_some, Some, cond}
use Rattle.std.specs.Ordering.{eq_by_cmp, is_eq, is_lt, ordering_reverse}
use Rattle.std.specs.declared.cmp.Ordering.{Ordering}
use Rattle.std.specs.declared.cmp.Ordering.TheVariants.{Less, Equal, Greater}
use Rattle.std.proofs.lemmas.Bool.{or_parts}
use Rattle.wse_path.specs.Tree.{Entries, is_near, fits, is_folder, entry_above, file_above, content, is_present, HasRoom, IsTree}
use Rattle.wse_path.specs.Path.{Path, is_under}
use Rattle.std.specs.FinMap.Entries.{find-put, find-where_key, below_all, by_order}
use Rattle.std.proofs.Common.{option_map, ◌++◌, ◌∙◌, ◌≢◌}
use Rattle.wse_path.proofs.EntryLemmas.{and_parts, less_so, equal_so, sorted_put, sorted_remove, find_at, below_at, gap_tail, gap_tail_zero}
pub use Rattle.wse_path.proofs.PathOrder.{tied_path, same_path}
use Rattle.wse_path.proofs.UnderLemmas.{under_behind, under_between}
use Rattle.wse_path.specs.Place.{IsGapAt}
use Rattle.std.specs.Prelude.{find as find_entry}
use Rattle.std.proofs.Common.{zero, suc, ◌<◌, ◌≤◌, ◌&&◌, get_or}
use Rattle.std.proofs.lemmas.Bool.{le-ltb}
use Rattle.std.proofs.Common.{◌⊎◌, inl, inr, ◌||◌, length, arith}
use Rattle.std.proofs.Common.{[], ◌∷◌, ◌≡◌, ℕ, Bool, true, false, List, Option, None, sym, refl, ap}
use Rattle.std.specs.Prelude.{not}
use Rattle.std.specs.FinMap.{is_sorted}
use Rattle.std.specs.Cmp.Lexicographic.{lists_total, nat_list_cmp_total}
use Rattle.wse_path.specs.Order.{path_cmp}
use Rattle.wse_path.specs.Tree.{put_file, remove_file}

pub rises_put : (es : Entries) (p : Path) (bytes : List ℕ) → is_sorted path_cmp es ≡ true → is_sorted path_cmp (put_file es p bytes) ≡ true
rises_put es p bytes s = sorted_put (lists_total nat_list_cmp_total) es p bytes s

pub rises_remove : (es : Entries) (p : Path) → is_sorted path_cmp es ≡ true → is_sorted path_cmp (remove_file es p) ≡ true
rises_remove es p s = sorted_remove (lists_total nat_list_cmp_total) es p s

alike_reversed : (o : Ordering) → o ≡ ordering_reverse o → is_eq o ≡ true
alike_reversed Less e = cc
alike_reversed Equal e = refl
alike_reversed Greater e = cc

pub tied_itself : (p : Path) → eq_by_cmp path_cmp p p ≡ true
tied_itself p = alike_reversed (path_cmp p p) ((lists_total nat_list_cmp_total).antisymm p p)

-- what `find` finds is one of the entries, so a test that none passes fails at its key
none_near : (es : Entries) (p q : Path) → list_any (λ e. is_near p e.0) es ≡ false → is_some (find path_cmp q es) ≡ true → is_near p q ≡ false
none_near [] p q h f = cc
none_near (e ∷ es) p q h f =
    let parts = or_parts (is_near p e.0) (list_any (λ x. is_near p x.0) es) h in
    elim (eq_by_cmp path_cmp q e.0) as (λ b. eq_by_cmp path_cmp q e.0 ≡ b → is_some (cond b (Some e.1) (find path_cmp q es)) ≡ true → is_near p q ≡ false) [
      | true ↦ λ t g. rw (same_path q e.0 t) parts.0
      | false ↦ λ t g. none_near es p q parts.1 g
    ] refl f

no_any : (b : Bool) → not b ≡ true → b ≡ false
no_any true h = cc
no_any false h = refl

-- a path that is present, or fits, is neither under nor above another that is present
apart : (es : Entries) (k : Path) → IsTree es → HasRoom es k → (q : Path) → is_some (find path_cmp q es) ≡ true → (is_under k q ≡ false) × (is_under q k ≡ false)
apart es k tree (inl here) q h = (tree.apart k q here h, tree.apart q k h here)
apart es k tree (inr free) q h =
    let near = none_near es k q (no_any _ free) h in
    let one = or_parts (eq_by_cmp path_cmp k q || is_under k q) (is_under q k) near in
    ((or_parts (eq_by_cmp path_cmp k q) (is_under k q) one.0).1, one.1)

here_or_there : (es : Entries) (k : Path) (v : List ℕ) (q : Path) → is_some (find path_cmp q (put_file es k v)) ≡ true → (q ≡ k) ⊎ (is_some (find path_cmp q es) ≡ true)
here_or_there es k v q h =
    elim (eq_by_cmp path_cmp q k) as (λ b. eq_by_cmp path_cmp q k ≡ b → is_some (cond b (Some v) (find path_cmp q es)) ≡ true → (q ≡ k) ⊎ (is_some (find path_cmp q es) ≡ true)) [
      | true ↦ λ e g. inl (same_path q k e)
      | false ↦ λ e g. inr g
    ] refl (rw (find-put path_cmp (lists_total nat_list_cmp_total) q k v es) at h)

not_under_itself : (p : Path) → is_under p p ≡ false
not_under_itself p = rw (le-ltb (length p) (length p) (omega arith))

apart_put : (es : Entries) (k : Path) (v : List ℕ) → IsTree es → HasRoom es k → (p q : Path) → is_present (put_file es k v) p ≡ true → is_present (put_file es k v) q ≡ true → is_under p q ≡ false
apart_put es k v tree ok p q hp hq =
    elim (here_or_there es k v p hp) [
      | inl at ↦ elim (here_or_there es k v q hq) [
        | inl at_too ↦ rw (at, at_too) (not_under_itself k)
        | inr there ↦ rw at (apart es k tree ok q there).0
      ]
      | inr there ↦ elim (here_or_there es k v q hq) [
        | inl at ↦ rw at (apart es k tree ok p there).1
        | inr there_too ↦ tree.apart p q there there_too
      ]
    ]

-- a put at a path that is present, or fits, keeps a tree a tree
pub tree_put : (es : Entries) (k : Path) (v : List ℕ) → IsTree es → HasRoom es k → IsTree (put_file es k v)
tree_put es k v tree ok = record { rises = rises_put es k v tree.rises; apart = apart_put es k v tree ok }

some_of : (b : Bool) (o : Option (List ℕ)) → is_some (cond b o None) ≡ true → is_some o ≡ true
some_of true o h = h
some_of false o h = cc

present_before : (es : Entries) (k q : Path) → is_present (remove_file es k) q ≡ true → is_present es q ≡ true
present_before es k q h = some_of _ _ (rw (find-where_key path_cmp (λ x. not (eq_by_cmp path_cmp k x)) q (λ x t. ap (λ y. not (eq_by_cmp path_cmp k y)) (sym (tied_path q x t))) es) at h)

-- a removal keeps a tree a tree
pub tree_remove : (es : Entries) (k : Path) → IsTree es → IsTree (remove_file es k)
tree_remove es k tree = record {
  rises = rises_remove es k tree.rises;
  apart = λ p q hp hq. tree.apart p q (present_before es k p hp) (present_before es k q hq);
}

-- where no file is at the path, above it or under it, it fits
none_near_where : (es : Entries) (p : Path) → is_folder es p ≡ false → file_above es p ≡ None → is_present es p ≡ false → list_any (λ e. is_near p e.0) es ≡ false
none_near_where [] p folder above here = refl
none_near_where (e ∷ es) p folder above here =
    let under = or_parts (is_under e.0 p) (is_folder es p) folder in
    elim (is_under p e.0) as (λ b. is_under p e.0 ≡ b → option_map (λ (x : Path × List ℕ). x.0) (cond b (Some e) (entry_above es p)) ≡ None → list_any (λ x. is_near p x.0) (e ∷ es) ≡ false) [
      | true ↦ λ t a. cc
      | false ↦ λ t a. elim (eq_by_cmp path_cmp p e.0) as (λ b. eq_by_cmp path_cmp p e.0 ≡ b → is_some (cond b (Some e.1) (find path_cmp p es)) ≡ false → list_any (λ x. is_near p x.0) (e ∷ es) ≡ false) [
        | true ↦ λ u h. cc
        | false ↦ λ u h. rw (u, t, under.0) (none_near_where es p under.1 a h)
      ] refl here
    ] refl above

pub fits_where : (es : Entries) (p : Path) → is_folder es p ≡ false → file_above es p ≡ None → is_present es p ≡ false → fits es p ≡ true
fits_where es p folder above here = ap not (none_near_where es p folder above here)

-- a path in front of others is present among all of them
pub present_front : (es rest : Entries) (q : Path) → is_present es q ≡ true → is_present (es ++ rest) q ≡ true
present_front [] rest q h = cc
present_front (e ∷ es) rest q h =
    elim (eq_by_cmp path_cmp q e.0) as (λ b. is_some (cond b (Some e.1) (find path_cmp q es)) ≡ true → is_some (cond b (Some e.1) (find path_cmp q (es ++ rest))) ≡ true) [
      | true ↦ λ g. refl
      | false ↦ λ g. present_front es rest q g
    ] h

pub present_first : (e : Path × List ℕ) (rest : Entries) → is_present (e ∷ rest) e.0 ≡ true
present_first e rest = ap (λ b. is_some (cond b (Some e.1) (find path_cmp e.0 rest))) (tied_itself e.0)

pub present_behind : (es : Entries) (e : Path × List ℕ) (rest : Entries) → is_present (es ++ e ∷ rest) e.0 ≡ true
present_behind [] e rest = present_first e rest
present_behind (f ∷ es) e rest =
    elim (eq_by_cmp path_cmp e.0 f.0) as (λ b. is_some (cond b (Some f.1) (find path_cmp e.0 (es ++ e ∷ rest))) ≡ true) [ true ↦ refl | false ↦ present_behind es e rest ]

-- what is below all of a list is below each of it
below_one : (x : Path) (es : Entries) (e : Path × List ℕ) (rest : Entries) → below_all path_cmp x (es ++ e ∷ rest) ≡ true → path_cmp x e.0 ≡ Less
below_one x [] e rest h = less_so (path_cmp x e.0) (and_parts (is_lt (path_cmp x e.0)) (below_all path_cmp x rest) h).0
below_one x (f ∷ es) e rest h = below_one x es e rest (and_parts (is_lt (path_cmp x f.0)) (below_all path_cmp x (es ++ e ∷ rest)) h).1

above_so : (x y : Path) → path_cmp x y ≡ Less → path_cmp y x ≡ Greater
above_so x y l = (lists_total nat_list_cmp_total).antisymm y x ∙ ap ordering_reverse l

-- the path of an entry isn't among those before it
pub absent_before : (es : Entries) (e : Path × List ℕ) (rest : Entries) → is_sorted path_cmp (es ++ e ∷ rest) ≡ true → is_present es e.0 ≡ false
absent_before [] e rest s = refl
absent_before (f ∷ es) e rest s =
    let parts = and_parts (below_all path_cmp f.0 (es ++ e ∷ rest)) (is_sorted path_cmp (es ++ e ∷ rest)) s in
    ap (λ o. is_some (cond (is_eq o) (Some f.1) (find path_cmp e.0 es))) (above_so f.0 e.0 (below_one f.0 es e rest parts.0))
    ∙ absent_before es e rest parts.1

-- where none that is present passes, no entry does
pub none_any : (es : Entries) (f : Path → Bool) → ((q : Path) → is_present es q ≡ true → f q ≡ false) → list_any (λ e. f e.0) es ≡ false
none_any [] f each = refl
none_any (e ∷ es) f each =
    rw (each e.0 (present_first e es)) (none_any es f (λ q h. each q (elim (eq_by_cmp path_cmp q e.0) as (λ b. is_some (cond b (Some e.1) (find path_cmp q es)) ≡ true) [ true ↦ refl | false ↦ h ])))

pub none_any_where : (es : Entries) (k : Path) → ((q : Path) → is_present es q ≡ true → is_near k q ≡ false) → list_any (λ e. is_near k e.0) es ≡ false
none_any_where es k each = none_any es (is_near k) each

pub near_parts : (a b c : Bool) → a ≡ false → b ≡ false → c ≡ false → (a || b || c) ≡ false
near_parts a b c f g h = rw (f, g, h) refl

pub not_tied : (es : Entries) (k q : Path) → is_present es k ≡ false → is_present es q ≡ true → eq_by_cmp path_cmp k q ≡ false
not_tied es k q absent here =
    elim (eq_by_cmp path_cmp k q) as (λ b. eq_by_cmp path_cmp k q ≡ b → b ≡ false) [
      | true ↦ λ t. let same = ap (is_present es) (same_path k q t) in cc
      | false ↦ λ t. refl
    ] refl

-- an entry of a tree fits among those before it
pub fits_front : (es : Entries) (e : Path × List ℕ) (rest : Entries) → IsTree (es ++ e ∷ rest) → fits es e.0 ≡ true
fits_front es e rest tree =
    ap not (none_any_where es e.0 (λ q h.
    let here = present_front es (e ∷ rest) q h in
    let there = present_behind es e rest in
    near_parts _ _ _ (not_tied es e.0 q (absent_before es e rest tree.rises) h) (tree.apart e.0 q there here) (tree.apart q e.0 here there)))

-- an entry behind the others is put at their end
pub put_front : (es : Entries) (e : Path × List ℕ) (rest : Entries) → is_sorted path_cmp (es ++ e ∷ rest) ≡ true → put_file es e.0 e.1 ≡ es ++ e ∷ []
put_front [] e rest s = refl
put_front (f ∷ es) e rest s =
    let parts = and_parts (below_all path_cmp f.0 (es ++ e ∷ rest)) (is_sorted path_cmp (es ++ e ∷ rest)) s in
    ap (λ o. by_order o ((e.0, e.1) ∷ f ∷ es) ((f.0, e.1) ∷ es) (f ∷ put_file es e.0 e.1)) (above_so f.0 e.0 (below_one f.0 es e rest parts.0))
    ∙ ap (λ l. f ∷ l) (put_front es e rest parts.1)

-- the content of an entry of a tree
pub content_of : (es : Entries) (e : Path × List ℕ) (rest : Entries) → is_sorted path_cmp (es ++ e ∷ rest) ≡ true → content (es ++ e ∷ rest) e.0 ≡ Some e.1
content_of [] e rest s = ap (λ b. cond b (Some e.1) (find path_cmp e.0 rest)) (tied_itself e.0)
content_of (f ∷ es) e rest s =
    let parts = and_parts (below_all path_cmp f.0 (es ++ e ∷ rest)) (is_sorted path_cmp (es ++ e ∷ rest)) s in
    ap (λ o. cond (is_eq o) (Some f.1) (find path_cmp e.0 (es ++ e ∷ rest))) (above_so f.0 e.0 (below_one f.0 es e rest parts.0))
    ∙ content_of es e rest parts.1

-- no tree is smaller than one without files
pub tree_none : IsTree []
tree_none = record { rises = refl; apart = λ p q hp hq. cc }

-- a put leaves the content of each other path
pub content_put_other : (es : Entries) (k : Path) (v : List ℕ) (q : Path) → q ≢ k → content (put_file es k v) q ≡ content es q
content_put_other es k v q ne =
    find-put path_cmp (lists_total nat_list_cmp_total) q k v es
    ∙ elim (eq_by_cmp path_cmp q k) as (λ b. eq_by_cmp path_cmp q k ≡ b → cond b (Some v) (find path_cmp q es) ≡ find path_cmp q es) [
      | true ↦ λ t. absurd (ne (same_path q k t))
      | false ↦ λ t. refl
    ] refl

-- an entry's path is present
present_at : (es : Entries) (i : ℕ) (d : Path × List ℕ) → is_sorted path_cmp es ≡ true → i < length es → is_present es (get_or es i d).0 ≡ true
present_at es i d s l = ap is_some (find_at (lists_total nat_list_cmp_total) es (get_or es i d).0 i d s l (equal_so _ (tied_itself (get_or es i d).0)))

tree_tail : (e : Path × List ℕ) (es : Entries) → IsTree (e ∷ es) → IsTree es
tree_tail e es tree =
    let kept = λ (q : Path) (h : is_present es q ≡ true). elim (eq_by_cmp path_cmp q e.0) as (λ b. is_some (cond b (Some e.1) (find path_cmp q es)) ≡ true) [ true ↦ refl | false ↦ h ] in
    record {
      rises = (and_parts (below_all path_cmp e.0 es) (is_sorted path_cmp es) tree.rises).1;
      apart = λ p q hp hq. tree.apart p q (kept p hp) (kept q hq);
    }

-- where none passes, none is found
find_none : {A : Type 0} (f : A → Bool) (xs : List A) → list_any f xs ≡ false → find_entry f xs ≡ None
find_none f [] h = refl
find_none f (x ∷ xs) h =
    let parts = or_parts (f x) (list_any f xs) h in
    ap (λ b. cond b (Some x) (find_entry f xs)) parts.0 ∙ find_none f xs parts.1

-- no file stands above one
pub none_above_one : (es : Entries) (p : Path) → IsTree es → is_present es p ≡ true → file_above es p ≡ None
none_above_one es p tree here = ap (option_map (λ (e : Path × List ℕ). e.0)) (find_none _ es (none_any es (λ q. is_under p q) (λ q h. tree.apart p q here h)))

not_above : (p q : Path) → path_cmp q p ≡ Greater → is_under p q ≡ false
not_above p q g =
    elim (is_under p q) as (λ t. is_under p q ≡ t → t ≡ false) [
      | true ↦ λ u. ap is_lt (sym (under_behind p q u) ∙ g)
      | false ↦ λ u. refl
    ] refl

above_zero : (es : Entries) (p : Path) → IsGapAt path_cmp es p 0 → entry_above es p ≡ None
above_zero [] p g = refl
above_zero (e ∷ es) p g =
    ap (λ b. cond b (Some e) (entry_above es p)) (not_above p e.0 (g.greater 0 e (omega arith) (omega arith)))
    ∙ above_zero es p (gap_tail_zero (lists_total nat_list_cmp_total) e es p g)

-- no file stands above a path before all of them
pub none_above_first : (es : Entries) (p : Path) → IsGapAt path_cmp es p 0 → file_above es p ≡ None
none_above_first es p g = ap (option_map (λ (e : Path × List ℕ). e.0)) (above_zero es p g)

-- what stands in a tree before another that is before p isn't above p
not_above_next : (es : Entries) (e f : Path × List ℕ) (p : Path) → IsTree es → is_present es e.0 ≡ true → is_present es f.0 ≡ true → path_cmp e.0 f.0 ≡ Less → path_cmp f.0 p ≡ Less → is_under p e.0 ≡ false
not_above_next es e f p tree here there l m =
    elim (is_under p e.0) as (λ t. is_under p e.0 ≡ t → t ≡ false) [
      | true ↦ λ u. sym (under_between e.0 f.0 p l m u) ∙ tree.apart f.0 e.0 there here
      | false ↦ λ u. refl
    ] refl

above_last : (es : Entries) (p : Path) (i : ℕ) (d : Path × List ℕ) → IsTree es → IsGapAt path_cmp es p (suc i) → entry_above es p ≡ cond (is_under p (get_or es i d).0) (Some (get_or es i d)) None
above_last [] p i d tree g = absurd (let w : suc i ≤ 0 = g.within in omega arith)
above_last (e ∷ es) p zero d tree g = ap (λ o. cond (is_under p e.0) (Some e) o) (above_zero es p (gap_tail (lists_total nat_list_cmp_total) e es p 0 g))
above_last (e ∷ es) p (suc i) d tree g =
    let w : suc (suc i) ≤ suc (length es) = g.within in
    let l : 0 < length es = omega arith in
    let order = below_at (lists_total nat_list_cmp_total) e.0 es 0 e (and_parts (below_all path_cmp e.0 es) (is_sorted path_cmp es) tree.rises).0 l in
    let no = not_above_next (e ∷ es) e (get_or es 0 e) p tree (present_first e es) (present_at (e ∷ es) 1 e tree.rises (omega arith)) order (g.smaller 1 e (omega arith)) in
    ap (λ b. cond b (Some e) (entry_above es p)) no ∙ above_last es p i d (tree_tail e es tree) (gap_tail (lists_total nat_list_cmp_total) e es p (suc i) g)

-- of a tree only the last file before p can stand above it
pub above_before : (es : Entries) (p : Path) (i : ℕ) (d : Path × List ℕ) → IsTree es → IsGapAt path_cmp es p (suc i) → file_above es p ≡ cond (is_under p (get_or es i d).0) (Some (get_or es i d).0) None
above_before es p i d tree g =
    ap (option_map (λ (e : Path × List ℕ). e.0)) (above_last es p i d tree g)
    ∙ elim (is_under p (get_or es i d).0) as (λ b. option_map (λ (e : Path × List ℕ). e.0) (cond b (Some (get_or es i d)) None) ≡ cond b (Some (get_or es i d).0) None) [ true ↦ refl | false ↦ refl ]

some_step : {A : Type 0} (b : Bool) (x : A) (o : Option A) → is_some (cond b (Some x) o) ≡ (b || is_some o)
some_step true x o = refl
some_step false x o = refl

some_mapped : {A B : Type 0} (f : A → B) (o : Option A) → is_some (option_map f o) ≡ is_some o
some_mapped f None = refl
some_mapped f (Some x) = refl

shuffled : (a b c x y z : Bool) → ((a || b || c) || (x || y || z)) ≡ ((a || x) || (b || y) || (c || z))
shuffled true b c x y z = refl
shuffled false b c x y z = grind arith

near_any : (es : Entries) (p : Path) → list_any (λ e. is_near p e.0) es ≡ (is_present es p || is_some (entry_above es p) || is_folder es p)
near_any [] p = refl
near_any (e ∷ es) p =
    ap (λ b. is_near p e.0 || b) (near_any es p)
    ∙ shuffled (eq_by_cmp path_cmp p e.0) (is_under p e.0) (is_under e.0 p) (is_present es p) (is_some (entry_above es p)) (is_folder es p)
    ∙ (λ i. sym (some_step (eq_by_cmp path_cmp p e.0) e.1 (content es p)) i || sym (some_step (is_under p e.0) e (entry_above es p)) i || is_folder (e ∷ es) p)

none_of : (a b c : Bool) → not (a || b || c) ≡ (not a && (not b && not c))
none_of true b c = refl
none_of false true c = refl
none_of false false c = refl

-- a path fits where it is absent, no file is above it, and it is no folder
pub fits_is : (es : Entries) (p : Path) → fits es p ≡ (not (is_present es p) && (not (is_some (file_above es p)) && not (is_folder es p)))
fits_is es p =
    ap not (near_any es p) ∙ none_of (is_present es p) (is_some (entry_above es p)) (is_folder es p)
    ∙ ap (λ b. not (is_present es p) && (not b && not (is_folder es p))) (sym (some_mapped (λ (e : Path × List ℕ). e.0) (entry_above es p)))
