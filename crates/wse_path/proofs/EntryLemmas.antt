-- A key's place in a list of entries whose keys rise, and what an edit there does.
use Rattle.std.proofs.Common.{◌≡◌, ℕ, zero, suc, ◌+◌, ◌<◌, ◌≤◌, Bool, true, false, ◌&&◌, cond, not, List, [], ◌∷◌, length, get_or, set, drop, Some, None, Result, Ok, Err, IfOk, IfErr, refl, sym, ◌∙◌, ap, subst, arith}
use Rattle.std.specs.FinMap.{find, put, is_sorted}
use Rattle.std.specs.FinMap.Entries.{where_key, below_all, by_order, is_sorted-put, is_sorted-where_key}
use lib.Dec.{T}
use Rattle.std.specs.List.{insert, remove}
use Rattle.std.specs.List.Sorted.{IsBinarySearchResult, IsSearchInRange, IsSortedBy}
use Rattle.std.specs.declared.cmp.Ordering.{Ordering}
use Rattle.std.specs.declared.cmp.Ordering.TheVariants.{Less, Equal, Greater}
use Rattle.std.specs.Ordering.{is_lt, is_eq, eq_by_cmp, ordering_reverse}
use Rattle.std.specs.Cmp.{IsTotalOrder}
use Rattle.std.specs.Prelude.{is_some}
use Rattle.std.proofs.lemmas.Cmp.{tied_back, tied_itself, alike_right}
use Rattle.std.proofs.lemmas.List.Sorted.{searchable_from_sorted}
use Rattle.wse_path.specs.Place.{HasKeyAt, IsGapAt}

pub and_parts : (a b : Bool) → (a && b) ≡ true → (a ≡ true) × (b ≡ true)
and_parts true b h = (refl, h)
and_parts false b h = (h, cc)

pub so : (b : Bool) → T b → b ≡ true
so true h = refl
so false h = absurd h

pub to_so : (b : Bool) → b ≡ true → T b
to_so b h = subst T (sym h) tt

pub less_so : (r : Ordering) → is_lt r ≡ true → r ≡ Less
less_so Less h = refl
less_so Equal h = cc
less_so Greater h = cc

pub equal_so : (r : Ordering) → is_eq r ≡ true → r ≡ Equal
equal_so Less h = cc
equal_so Equal h = refl
equal_so Greater h = cc

module _ {K : Type 0} {R : K → K → Ordering} (o : IsTotalOrder R) where
  -- an entry below a key that ties with k is below k
  turned_above : (x y k : K) → R x y ≡ Less → R y k ≡ Equal → R k x ≡ Greater
  turned_above x y k l t = o.antisymm k x ∙ ap ordering_reverse (sym (alike_right o y k x t) ∙ l)

  pub turned : (x k : K) (r : Ordering) → R x k ≡ r → R k x ≡ ordering_reverse r
  turned x k r e = o.antisymm k x ∙ ap ordering_reverse e

module _ {K X : Type 0} {R : K → K → Ordering} (o : IsTotalOrder R) where
  -- the key of each entry is above x
  pub below_at : (x : K) (es : List (K × X)) (i : ℕ) (d : K × X) → below_all R x es ≡ true → i < length es → R x (get_or es i d).0 ≡ Less
  below_at x [] i d h l = absurd (omega arith)
  below_at x (e ∷ es) zero d h l = less_so (R x e.0) (and_parts (is_lt (R x e.0)) (below_all R x es) h).0
  below_at x (e ∷ es) (suc i) d h l = below_at x es i d (and_parts (is_lt (R x e.0)) (below_all R x es) h).1 (omega arith)

  pub find_at : (es : List (K × X)) (k : K) (i : ℕ) (d : K × X) → is_sorted R es ≡ true → i < length es → R (get_or es i d).0 k ≡ Equal → find R k es ≡ Some (get_or es i d).1
  find_at [] k i d s l t = absurd (omega arith)
  find_at (e ∷ es) k zero d s l t = ap (λ r. cond (is_eq r) (Some e.1) (find R k es)) (tied_back o e.0 k t)
  find_at (e ∷ es) k (suc i) d s l t =
      let l' : i < length es = omega arith in
      let parts = and_parts (below_all R e.0 es) (is_sorted R es) s in
      ap (λ r. cond (is_eq r) (Some e.1) (find R k es)) (turned_above o e.0 (get_or es i d).0 k (below_at e.0 es i d parts.0 l') t)
      ∙ find_at es k i d parts.1 l' t

  pub put_at : (es : List (K × X)) (k : K) (v : X) (i : ℕ) (d : K × X) → is_sorted R es ≡ true → i < length es → R (get_or es i d).0 k ≡ Equal → put R k v es ≡ set es i ((get_or es i d).0, v)
  put_at [] k v i d s l t = absurd (omega arith)
  put_at (e ∷ es) k v zero d s l t = ap (λ r. by_order r ((k, v) ∷ e ∷ es) ((e.0, v) ∷ es) (e ∷ put R k v es)) (tied_back o e.0 k t)
  put_at (e ∷ es) k v (suc i) d s l t =
      let l' : i < length es = omega arith in
      let parts = and_parts (below_all R e.0 es) (is_sorted R es) s in
      ap (λ r. by_order r ((k, v) ∷ e ∷ es) ((e.0, v) ∷ es) (e ∷ put R k v es)) (turned_above o e.0 (get_or es i d).0 k (below_at e.0 es i d parts.0 l') t)
      ∙ ap (λ t. e ∷ t) (put_at es k v i d parts.1 l' t)

  -- what follows the first entry has the gap one place lower
  pub gap_tail : (e : K × X) (es : List (K × X)) (k : K) (i : ℕ) → IsGapAt R (e ∷ es) k (suc i) → IsGapAt R es k i
  gap_tail e es k i g = record {
    within = let w : suc i ≤ suc (length es) = g.within in omega arith;
    smaller = λ j d l. g.smaller (suc j) d (omega arith);
    greater = λ j d l h. g.greater (suc j) d (omega arith) (let h' : j < length es = h in omega arith);
  }

  pub gap_tail_zero : (e : K × X) (es : List (K × X)) (k : K) → IsGapAt R (e ∷ es) k 0 → IsGapAt R es k 0
  gap_tail_zero e es k g = record {
    within = omega arith;
    smaller = λ j d l. absurd (omega arith);
    greater = λ j d l h. g.greater (suc j) d (omega arith) (let h' : j < length es = h in omega arith);
  }

  pub find_gap : (es : List (K × X)) (k : K) (i : ℕ) → IsGapAt R es k i → find R k es ≡ None
  find_gap [] k i g = refl
  find_gap (e ∷ es) k zero g =
      ap (λ r. cond (is_eq r) (Some e.1) (find R k es)) (turned o e.0 k Greater (g.greater 0 e (omega arith) (omega arith)))
      ∙ find_gap es k zero (gap_tail_zero e es k g)
  find_gap (e ∷ es) k (suc i) g =
      ap (λ r. cond (is_eq r) (Some e.1) (find R k es)) (turned o e.0 k Less (g.smaller 0 e (omega arith)))
      ∙ find_gap es k i (gap_tail e es k i g)

  pub put_gap : (es : List (K × X)) (k : K) (v : X) (i : ℕ) → IsGapAt R es k i → put R k v es ≡ insert es i (k, v)
  put_gap [] k v zero g = refl
  put_gap [] k v (suc i) g = absurd (let w : suc i ≤ 0 = g.within in omega arith)
  put_gap (e ∷ es) k v zero g =
      ap (λ r. by_order r ((k, v) ∷ e ∷ es) ((e.0, v) ∷ es) (e ∷ put R k v es)) (turned o e.0 k Greater (g.greater 0 e (omega arith) (omega arith)))
  put_gap (e ∷ es) k v (suc i) g =
      ap (λ r. by_order r ((k, v) ∷ e ∷ es) ((e.0, v) ∷ es) (e ∷ put R k v es)) (turned o e.0 k Less (g.smaller 0 e (omega arith)))
      ∙ ap (λ t. e ∷ t) (put_gap es k v i (gap_tail e es k i g))

  -- neighbours of a sorted list are in order
  neighbours : (es : List (K × X)) (i : ℕ) (d : K × X) → is_sorted R es ≡ true → i + 1 < length es → R (get_or es i d).0 (get_or es (i + 1) d).0 ≡ Less
  neighbours [] i d s l = absurd (omega arith)
  neighbours (e ∷ es) zero d s l = below_at e.0 es 0 d (and_parts (below_all R e.0 es) (is_sorted R es) s).0 (omega arith)
  neighbours (e ∷ es) (suc i) d s l = subst (λ j. R (get_or es i d).0 (get_or (e ∷ es) j d).0 ≡ Less) {x = suc (i + 1)} (omega arith) (neighbours es i d (and_parts (below_all R e.0 es) (is_sorted R es) s).1 (omega arith))

  pub sorted_by_key : (es : List (K × X)) → is_sorted R es ≡ true → IsSortedBy (λ a b. is_lt (R a.0 b.0)) es
  sorted_by_key es s i d low l = ap is_lt (turned o _ _ Less (neighbours es i d s l))

  -- what a binary search for the key ends at
  pub searched : (es : List (K × X)) (k : K) (r : Result ℕ ℕ) → is_sorted R es ≡ true → IsSearchInRange r (length es) → IsBinarySearchResult (λ e. R e.0 k) es r → record { found : IfOk r (λ i. (i < length es) × HasKeyAt R es k i); absent : IfErr r (IsGapAt R es k) }
  searched es k (Ok i) s l h = record { found = (l, h); absent = tt }
  searched es k (Err i) s l h =
      let parted = h (searchable_from_sorted o (λ (e : K × X). e.0) es k (sorted_by_key es s)) in
      record { found = tt; absent = record { within = l; smaller = λ j d lt. parted.0 j d (omega arith) lt; greater = λ j d le lt. parted.1 j d le lt } }

  -- no later key ties with one that is below them all
  pub where_below : (es : List (K × X)) (k : K) → below_all R k es ≡ true → where_key R (λ x. not (eq_by_cmp R k x)) es ≡ es
  where_below [] k h = refl
  where_below (e ∷ es) k h =
      let parts = and_parts (is_lt (R k e.0)) (below_all R k es) h in
      ap (λ r. cond (not (is_eq r)) (e ∷ where_key R (λ x. not (eq_by_cmp R k x)) es) (where_key R (λ x. not (eq_by_cmp R k x)) es)) (less_so (R k e.0) parts.0)
      ∙ ap (λ t. e ∷ t) (where_below es k parts.1)

  pub below_tied : (es : List (K × X)) (x k : K) → R x k ≡ Equal → below_all R x es ≡ true → below_all R k es ≡ true
  below_tied [] x k t h = refl
  below_tied (e ∷ es) x k t h =
      let parts = and_parts (is_lt (R x e.0)) (below_all R x es) h in
      (λ i. is_lt (sym (o.congr x k e.0 t) i) && below_tied es x k t parts.1 i) ∙ ap (λ b. b && true) parts.0

  pub remove_at : (es : List (K × X)) (k : K) (i : ℕ) (d : K × X) → is_sorted R es ≡ true → i < length es → R (get_or es i d).0 k ≡ Equal → where_key R (λ x. not (eq_by_cmp R k x)) es ≡ remove es i
  remove_at [] k i d s l t = absurd (omega arith)
  remove_at (e ∷ es) k zero d s l t =
      ap (λ r. cond (not (is_eq r)) (e ∷ where_key R (λ x. not (eq_by_cmp R k x)) es) (where_key R (λ x. not (eq_by_cmp R k x)) es)) (tied_back o e.0 k t)
      ∙ where_below es k (below_tied es e.0 k t (and_parts (below_all R e.0 es) (is_sorted R es) s).0)
  remove_at (e ∷ es) k (suc i) d s l t =
      let l' : i < length es = omega arith in
      let parts = and_parts (below_all R e.0 es) (is_sorted R es) s in
      ap (λ r. cond (not (is_eq r)) (e ∷ where_key R (λ x. not (eq_by_cmp R k x)) es) (where_key R (λ x. not (eq_by_cmp R k x)) es)) (turned_above o e.0 (get_or es i d).0 k (below_at e.0 es i d parts.0 l') t)
      ∙ ap (λ t. e ∷ t) (remove_at es k i d parts.1 l' t)

  pub remove_gap : (es : List (K × X)) (k : K) (i : ℕ) → IsGapAt R es k i → where_key R (λ x. not (eq_by_cmp R k x)) es ≡ es
  remove_gap [] k i g = refl
  remove_gap (e ∷ es) k zero g =
      ap (λ r. cond (not (is_eq r)) (e ∷ where_key R (λ x. not (eq_by_cmp R k x)) es) (where_key R (λ x. not (eq_by_cmp R k x)) es)) (turned o e.0 k Greater (g.greater 0 e (omega arith) (omega arith)))
      ∙ ap (λ t. e ∷ t) (remove_gap es k zero (gap_tail_zero e es k g))
  remove_gap (e ∷ es) k (suc i) g =
      ap (λ r. cond (not (is_eq r)) (e ∷ where_key R (λ x. not (eq_by_cmp R k x)) es) (where_key R (λ x. not (eq_by_cmp R k x)) es)) (turned o e.0 k Less (g.smaller 0 e (omega arith)))
      ∙ ap (λ t. e ∷ t) (remove_gap es k i (gap_tail e es k i g))

  -- a put keeps the order
  pub sorted_put : (es : List (K × X)) (k : K) (v : X) → is_sorted R es ≡ true → is_sorted R (put R k v es) ≡ true
  sorted_put es k v s = so _ (is_sorted-put R o k v es (to_so _ s))

  -- the entries that come behind a key
  pub behind_all : (es : List (K × X)) (k : K) → below_all R k es ≡ true → where_key R (λ q. is_lt (R k q)) es ≡ es
  behind_all [] k h = refl
  behind_all (e ∷ es) k h =
      let parts = and_parts (is_lt (R k e.0)) (below_all R k es) h in
      ap (λ b. cond b (e ∷ where_key R (λ q. is_lt (R k q)) es) (where_key R (λ q. is_lt (R k q)) es)) parts.0
      ∙ ap (λ t. e ∷ t) (behind_all es k parts.1)

  pub behind_at : (es : List (K × X)) (k : K) (i : ℕ) (d : K × X) → is_sorted R es ≡ true → i < length es → R (get_or es i d).0 k ≡ Equal → where_key R (λ q. is_lt (R k q)) es ≡ drop (suc i) es
  behind_at [] k i d s l t = absurd (omega arith)
  behind_at (e ∷ es) k zero d s l t =
      ap (λ r. cond (is_lt r) (e ∷ where_key R (λ q. is_lt (R k q)) es) (where_key R (λ q. is_lt (R k q)) es)) (tied_back o e.0 k t)
      ∙ behind_all es k (below_tied es e.0 k t (and_parts (below_all R e.0 es) (is_sorted R es) s).0)
  behind_at (e ∷ es) k (suc i) d s l t =
      let l' : i < length es = omega arith in
      let parts = and_parts (below_all R e.0 es) (is_sorted R es) s in
      ap (λ r. cond (is_lt r) (e ∷ where_key R (λ q. is_lt (R k q)) es) (where_key R (λ q. is_lt (R k q)) es)) (turned_above o e.0 (get_or es i d).0 k (below_at e.0 es i d parts.0 l') t)
      ∙ behind_at es k i d parts.1 l' t

  pub behind_gap : (es : List (K × X)) (k : K) (i : ℕ) → IsGapAt R es k i → where_key R (λ q. is_lt (R k q)) es ≡ drop i es
  behind_gap [] k zero g = refl
  behind_gap [] k (suc i) g = refl
  behind_gap (e ∷ es) k zero g =
      ap (λ r. cond (is_lt r) (e ∷ where_key R (λ q. is_lt (R k q)) es) (where_key R (λ q. is_lt (R k q)) es)) (turned o e.0 k Greater (g.greater 0 e (omega arith) (omega arith)))
      ∙ ap (λ t. e ∷ t) (behind_gap es k zero (gap_tail_zero e es k g))
  behind_gap (e ∷ es) k (suc i) g =
      ap (λ r. cond (is_lt r) (e ∷ where_key R (λ q. is_lt (R k q)) es) (where_key R (λ q. is_lt (R k q)) es)) (turned o e.0 k Less (g.smaller 0 e (omega arith)))
      ∙ behind_gap es k i (gap_tail e es k i g)

  pub below_behind : (es : List (K × X)) (k : K) → below_all R k (where_key R (λ q. is_lt (R k q)) es) ≡ true
  below_behind [] k = refl
  below_behind (e ∷ es) k =
      elim (is_lt (R k e.0)) as (λ b. is_lt (R k e.0) ≡ b → below_all R k (cond b (e ∷ where_key R (λ q. is_lt (R k q)) es) (where_key R (λ q. is_lt (R k q)) es)) ≡ true) [
        | true ↦ λ t. ap (λ b. b && below_all R k (where_key R (λ q. is_lt (R k q)) es)) t ∙ below_behind es k
        | false ↦ λ t. below_behind es k
      ] refl

  pub sorted_behind : (es : List (K × X)) (k : K) → is_sorted R es ≡ true → is_sorted R (where_key R (λ q. is_lt (R k q)) es) ≡ true
  sorted_behind es k s = so _ (is_sorted-where_key R _ es (to_so _ s))

  -- so does a removal
  pub sorted_remove : (es : List (K × X)) (k : K) → is_sorted R es ≡ true → is_sorted R (where_key R (λ x. not (eq_by_cmp R k x)) es) ≡ true
  sorted_remove es k s = so _ (is_sorted-where_key R _ es (to_so _ s))

  -- what an edit at the place of a key does
  pub set_place : (es new : List (K × X)) (k : K) (v : X) (i : ℕ) → is_sorted R es ≡ true → i < length es → HasKeyAt R es k i → ((d : K × X) → new ≡ set es i ((get_or es i d).0, v)) → new ≡ put R k v es
  set_place [] new k v i s l h is = absurd (omega arith)
  set_place (e ∷ es) new k v i s l h is = is e ∙ sym (put_at (e ∷ es) k v i e s l (h e))

  pub remove_place : (es : List (K × X)) (k : K) (i : ℕ) → is_sorted R es ≡ true → i < length es → HasKeyAt R es k i → remove es i ≡ where_key R (λ x. not (eq_by_cmp R k x)) es
  remove_place [] k i s l h = absurd (omega arith)
  remove_place (e ∷ es) k i s l h = sym (remove_at (e ∷ es) k i e s l (h e))

  pub found_place : (es : List (K × X)) (k : K) (i : ℕ) → is_sorted R es ≡ true → i < length es → HasKeyAt R es k i → is_some (find R k es) ≡ true
  found_place [] k i s l h = absurd (omega arith)
  found_place (e ∷ es) k i s l h = ap is_some (find_at (e ∷ es) k i e s l (h e))

  -- the entries but for one rise
  pub sorted_remove_at : (es : List (K × X)) (i : ℕ) → is_sorted R es ≡ true → i < length es → is_sorted R (remove es i) ≡ true
  sorted_remove_at [] i s l = absurd (omega arith)
  sorted_remove_at (e ∷ es) i s l =
      let k = (get_or (e ∷ es) i e).0 in
      subst (λ (x : List (K × X)). is_sorted R x ≡ true) (remove_at (e ∷ es) k i e s l (tied_itself o k)) (sorted_remove (e ∷ es) k s)
