-- Entries changed one path after another, and how a pass over them does it.
use Rattle.std.proofs.Common.{◌≡◌, ℕ, zero, suc, ◌+◌, ◌<◌, ◌≤◌, Bool, true, false, ◌&&◌, cond, not, List, [], ◌∷◌, ◌++◌, length, take, get_or, set, reverse, Option, Some, None, Result, Ok, Err, OnOk, OnErr, refl, sym, ◌∙◌, ap, subst, arith, append_assoc}
use Rattle.std.specs.FinMap.{find, put, is_sorted}
use Rattle.std.specs.FinMap.Entries.{where_key, below_all, by_order, find-put, find-where_key}
use Rattle.std.specs.List.{insert, remove}
use Rattle.std.specs.declared.cmp.Ordering.{Ordering}
use Rattle.std.specs.declared.cmp.Ordering.TheVariants.{Less, Equal, Greater}
use Rattle.std.specs.Ordering.{is_lt, is_eq, eq_by_cmp}
use Rattle.std.specs.Cmp.{IsTotalOrder, eq_by_cmp_equiv}
use Rattle.std.proofs.lemmas.Cmp.{tied_back, alike_right}
use Rattle.std.proofs.lemmas.List.{reverse-append, length-append, length-reverse, length-set}
use Rattle.wse_path.specs.Order.{path_cmp}
use Rattle.wse_path.specs.Path.{Path}
use Rattle.wse_path.specs.PathMap.{value_at, without, set_value, update_all}
use Rattle.wse_path.specs.Place.{HasKeyAt, IsGapAt, all_before}
use Rattle.wse_path.proofs.EntryLemmas.{and_parts, less_so, turned, below_at, below_tied, where_below, gap_tail, put_gap, sorted_put, sorted_remove, set_place, remove_place}
use Rattle.wse_path.proofs.PathOrder.{total, tied_path}

-- the last of a row put in front of what was moved out of it
pub moved : {X : Type 0} (front back : List X) (x : X) → front ++ reverse (back ++ x ∷ []) ≡ (front ++ x ∷ []) ++ reverse back
moved front back x = ap (λ l. front ++ l) (reverse-append back (x ∷ [])) ∙ sym (append_assoc front (x ∷ []) (reverse back))

pub pushed : {X : Type 0} (front back : List X) (x : X) → (front ++ x ∷ []) ++ back ≡ front ++ x ∷ back
pushed front back x = append_assoc front (x ∷ []) back

-- what is left of the entries after a path is taken out of them
pub record Taken {K X : Type 0} (R : K → K → Ordering) (all front back : List (K × X)) (k : K) (old : Option X) : Type 0 where
  pub value : find R k all ≡ old
  pub without : where_key R (λ q. not (eq_by_cmp R k q)) all ≡ front ++ back
  pub placed : (v : X) → put R k v all ≡ front ++ (k, v) ∷ back

module _ {K X : Type 0} {R : K → K → Ordering} (o : IsTotalOrder R) where
  -- a key that comes after all of a front stands in the back
  find_past : (front back : List (K × X)) (k : K) → all_before R front k ≡ true → find R k (front ++ back) ≡ find R k back
  find_past [] back k h = refl
  find_past (e ∷ front) back k h =
      let parts = and_parts (is_lt (R e.0 k)) (all_before R front k) h in
      ap (λ r. cond (is_eq r) (Some e.1) (find R k (front ++ back))) (turned o e.0 k Less (less_so (R e.0 k) parts.0))
      ∙ find_past front back k parts.1

  put_past : (front back : List (K × X)) (k : K) (v : X) → all_before R front k ≡ true → put R k v (front ++ back) ≡ front ++ put R k v back
  put_past [] back k v h = refl
  put_past (e ∷ front) back k v h =
      let parts = and_parts (is_lt (R e.0 k)) (all_before R front k) h in
      ap (λ r. by_order r ((k, v) ∷ e ∷ (front ++ back)) ((e.0, v) ∷ (front ++ back)) (e ∷ put R k v (front ++ back))) (turned o e.0 k Less (less_so (R e.0 k) parts.0))
      ∙ ap (λ t. e ∷ t) (put_past front back k v parts.1)

  without_past : (front back : List (K × X)) (k : K) → all_before R front k ≡ true → where_key R (λ q. not (eq_by_cmp R k q)) (front ++ back) ≡ front ++ where_key R (λ q. not (eq_by_cmp R k q)) back
  without_past [] back k h = refl
  without_past (e ∷ front) back k h =
      let parts = and_parts (is_lt (R e.0 k)) (all_before R front k) h in
      ap (λ r. cond (not (is_eq r)) (e ∷ where_key R (λ q. not (eq_by_cmp R k q)) (front ++ back)) (where_key R (λ q. not (eq_by_cmp R k q)) (front ++ back))) (turned o e.0 k Less (less_so (R e.0 k) parts.0))
      ∙ ap (λ t. e ∷ t) (without_past front back k parts.1)

  below_less : (es : List (K × X)) (k x : K) → R k x ≡ Less → below_all R x es ≡ true → below_all R k es ≡ true
  below_less [] k x l h = refl
  below_less (e ∷ es) k x l h =
      let parts = and_parts (is_lt (R x e.0)) (below_all R x es) h in
      λ i. is_lt (o.trans k x e.0 l (less_so (R x e.0) parts.0) i) && below_less es k x l parts.1 i

  -- a key below the first of a list whose keys rise is below all
  below_first : (e : K × X) (es : List (K × X)) (k : K) → R k e.0 ≡ Less → below_all R e.0 es ≡ true → below_all R k (e ∷ es) ≡ true
  below_first e es k l h = λ i. is_lt (l i) && below_less es k e.0 l h i

  pub sorted_back : (front back : List (K × X)) → is_sorted R (front ++ back) ≡ true → is_sorted R back ≡ true
  sorted_back [] back s = s
  sorted_back (e ∷ front) back s = sorted_back front back (and_parts (below_all R e.0 (front ++ back)) (is_sorted R (front ++ back)) s).1

  pub find_below : (es : List (K × X)) (k : K) → below_all R k es ≡ true → find R k es ≡ None
  find_below [] k h = refl
  find_below (e ∷ es) k h =
      let parts = and_parts (is_lt (R k e.0)) (below_all R k es) h in
      ap (λ r. cond (is_eq r) (Some e.1) (find R k es)) (less_so (R k e.0) parts.0) ∙ find_below es k parts.1

  put_below : (es : List (K × X)) (k : K) (v : X) → below_all R k es ≡ true → put R k v es ≡ (k, v) ∷ es
  put_below [] k v h = refl
  put_below (e ∷ es) k v h =
      let parts = and_parts (is_lt (R k e.0)) (below_all R k es) h in
      ap (λ r. by_order r ((k, v) ∷ e ∷ es) ((e.0, v) ∷ es) (e ∷ put R k v es)) (less_so (R k e.0) parts.0)

  taken_between : (front back : List (K × X)) (k : K) → all_before R front k ≡ true → below_all R k back ≡ true → Taken R (front ++ back) front back k None
  taken_between front back k b h = record {
    value = find_past front back k b ∙ find_below back k h;
    without = without_past front back k b ∙ ap (λ t. front ++ t) (where_below o back k h);
    placed = λ v. put_past front back k v b ∙ ap (λ t. front ++ t) (put_below back k v h);
  }

  -- nothing is behind the key
  pub taken_last : (front : List (K × X)) (k : K) → all_before R front k ≡ true → Taken R (front ++ []) front [] k None
  taken_last front k b = taken_between front [] k b refl

  -- the next entry is behind the key
  pub taken_before : (front : List (K × X)) (e : K × X) (back : List (K × X)) (k : K) → all_before R front k ≡ true → is_sorted R (front ++ e ∷ back) ≡ true → R e.0 k ≡ Greater → Taken R (front ++ e ∷ back) front (e ∷ back) k None
  taken_before front e back k b s g =
      let low = (and_parts (below_all R e.0 back) (is_sorted R back) (sorted_back front (e ∷ back) s)).0 in
      taken_between front (e ∷ back) k b (below_first e back k (turned o e.0 k Greater g) low)

  -- the next entry has the key
  pub taken_at : ((x y : K) → R x y ≡ Equal → x ≡ y) → (front : List (K × X)) (e : K × X) (back : List (K × X)) (k : K) → all_before R front k ≡ true → is_sorted R (front ++ e ∷ back) ≡ true → R e.0 k ≡ Equal → Taken R (front ++ e ∷ back) front back k (Some e.1)
  taken_at same front e back k b s t =
      let low = (and_parts (below_all R e.0 back) (is_sorted R back) (sorted_back front (e ∷ back) s)).0 in
      let tied = tied_back o e.0 k t in
      record {
        value = find_past front (e ∷ back) k b ∙ ap (λ r. cond (is_eq r) (Some e.1) (find R k back)) tied;
        without =
            without_past front (e ∷ back) k b
            ∙ ap (λ r. front ++ cond (not (is_eq r)) (e ∷ where_key R (λ q. not (eq_by_cmp R k q)) back) (where_key R (λ q. not (eq_by_cmp R k q)) back)) tied
            ∙ ap (λ l. front ++ l) (where_below o back k (below_tied o back e.0 k t low));
        placed = λ v.
            put_past front (e ∷ back) k v b
            ∙ ap (λ r. front ++ by_order r ((k, v) ∷ e ∷ back) ((e.0, v) ∷ back) (e ∷ put R k v back)) tied
            ∙ ap (λ x. front ++ (x, v) ∷ back) (same e.0 k t);
      }

  pub before_push : (front : List (K × X)) (e : K × X) (k : K) → all_before R front k ≡ true → R e.0 k ≡ Less → all_before R (front ++ e ∷ []) k ≡ true
  before_push [] e k h l = λ i. is_lt (l i) && true
  before_push (x ∷ front) e k h l =
      let parts = and_parts (is_lt (R x.0 k)) (all_before R front k) h in
      λ i. parts.0 i && before_push front e k parts.1 l i

  pub before_later : (front : List (K × X)) (k q : K) → all_before R front k ≡ true → R k q ≡ Less → all_before R front q ≡ true
  before_later [] k q h l = refl
  before_later (e ∷ front) k q h l =
      let parts = and_parts (is_lt (R e.0 k)) (all_before R front k) h in
      λ i. is_lt (o.trans e.0 k q (less_so (R e.0 k) parts.0) l i) && before_later front k q parts.1 l i

  -- what stands before the place of a key comes before the key
  before_key : (es : List (K × X)) (k : K) (i : ℕ) (d : K × X) → is_sorted R es ≡ true → i < length es → R (get_or es i d).0 k ≡ Equal → all_before R (take i es) k ≡ true
  before_key [] k i d s l t = absurd (omega arith)
  before_key (e ∷ es) k zero d s l t = refl
  before_key (e ∷ es) k (suc i) d s l t =
      let l' : i < length es = omega arith in
      let parts = and_parts (below_all R e.0 es) (is_sorted R es) s in
      let less : R e.0 k ≡ Less = sym (alike_right o (get_or es i d).0 k e.0 t) ∙ below_at o e.0 es i d parts.0 l' in
      λ j. is_lt (less j) && before_key es k i d parts.1 l' t j

  pub before_place : (es : List (K × X)) (k : K) (i : ℕ) → is_sorted R es ≡ true → i < length es → HasKeyAt R es k i → all_before R (take i es) k ≡ true
  before_place [] k i s l h = absurd (omega arith)
  before_place (e ∷ es) k i s l h = before_key (e ∷ es) k i e s l (h e)

  pub before_gap : (es : List (K × X)) (k : K) (i : ℕ) → IsGapAt R es k i → all_before R (take i es) k ≡ true
  before_gap [] k zero g = refl
  before_gap [] k (suc i) g = refl
  before_gap (e ∷ es) k zero g = refl
  before_gap (e ∷ es) k (suc i) g = λ j. is_lt (g.smaller 0 e (omega arith) j) && before_gap es k i (gap_tail o e es k i g) j

-- of keys that rise the next is greater
pub next_greater : {K C : Type 0} (R : K → K → Ordering) (front : List (K × C)) (c d : K × C) (more : List (K × C)) → is_sorted R (front ++ c ∷ d ∷ more) ≡ true → R c.0 d.0 ≡ Less
next_greater R [] c d more s =
    less_so (R c.0 d.0) (and_parts (is_lt (R c.0 d.0)) (below_all R c.0 more) (and_parts (below_all R c.0 (d ∷ more)) (is_sorted R (d ∷ more)) s).0).0
next_greater R (x ∷ front) c d more s = next_greater R front c d more (and_parts (below_all R x.0 (front ++ c ∷ d ∷ more)) (is_sorted R (front ++ c ∷ d ∷ more)) s).1

module _ {V : Type 0} where
  pub sorted_set : (es : List (Path × V)) (p : Path) (v : Option V) → is_sorted path_cmp es ≡ true → is_sorted path_cmp (set_value es p v) ≡ true
  sorted_set es p None s = sorted_remove total es p s
  sorted_set es p (Some v) s = sorted_put total es p v s

module _ {C V : Type 0} (f : C → Option V → Option V) where
  pub sorted_update : (cs : List (Path × C)) (es : List (Path × V)) → is_sorted path_cmp es ≡ true → is_sorted path_cmp (update_all f cs es) ≡ true
  sorted_update [] es s = s
  sorted_update (c ∷ cs) es s = sorted_update cs (set_value es c.0 (f c.1 (value_at es c.0))) (sorted_set es c.0 (f c.1 (value_at es c.0)) s)

  pub update_more : (cs : List (Path × C)) (c : Path × C) (es : List (Path × V)) → update_all f (cs ++ c ∷ []) es ≡ set_value (update_all f cs es) c.0 (f c.1 (value_at (update_all f cs es) c.0))
  update_more [] c es = refl
  update_more (x ∷ cs) c es = update_more cs c (set_value es x.0 (f x.1 (value_at es x.0)))

switched : {A : Type 0} (b : Bool) (x y : A) → cond (not b) x y ≡ cond b y x
switched true x y = refl
switched false x y = refl

module _ {V : Type 0} where
  -- what stands at a path after one is set
  pub value_set : (es : List (Path × V)) (p : Path) (v : Option V) (q : Path) → value_at (set_value es p v) q ≡ cond (eq_by_cmp path_cmp q p) v (value_at es q)
  value_set es p None q =
      find-where_key path_cmp (λ x. not (eq_by_cmp path_cmp p x)) q (λ x t. ap (λ y. not (eq_by_cmp path_cmp p y)) (sym (tied_path q x t))) es
      ∙ switched (eq_by_cmp path_cmp p q) (value_at es q) None
      ∙ ap (λ b. cond b None (value_at es q)) ((eq_by_cmp_equiv total).symm p q)
  value_set es p (Some v) q = find-put path_cmp total q p v es

  pub value_same : (es : List (Path × V)) (p : Path) (v : Option V) (q : Path) → path_cmp p q ≡ Less → value_at (set_value es p v) q ≡ value_at es q
  value_same es p v q l = value_set es p v q ∙ ap (λ r. cond (is_eq r) v (value_at es q)) (turned total p q Less l)

-- the next entry of what was moved out
pub split_off : {X : Type 0} (front back back' all : List X) (x : X) → front ++ reverse back ≡ all → back ≡ back' ++ x ∷ [] → front ++ x ∷ reverse back' ≡ all
split_off front back back' all x whole last =
    sym (pushed front (reverse back') x) ∙ sym (moved front back' x) ∙ ap (λ l. front ++ reverse l) (sym last) ∙ whole

pub length_whole : {X : Type 0} (front back : List X) → length (front ++ reverse back) ≡ length front + length back
length_whole front back = length-append front (reverse back) ∙ ap (λ n. length front + n) (length-reverse back)

module _ {V : Type 0} (front back all : List (Path × V)) (p : Path) (whole : front ++ reverse back ≡ all) (before : all_before path_cmp front p ≡ true) (rises : is_sorted path_cmp all ≡ true) where
  -- the last entry of the back has the path
  pub took_at : (back' : List (Path × V)) (e : Path × V) → back ≡ back' ++ e ∷ [] → path_cmp e.0 p ≡ Equal → Taken path_cmp all front (reverse back') p (Some e.1)
  took_at back' e last tied =
      let is : front ++ e ∷ reverse back' ≡ all = split_off front back back' all e whole last in
      subst (λ (l : List (Path × V)). Taken path_cmp l front (reverse back') p (Some e.1)) is
      (taken_at total tied_path front e (reverse back') p before (subst (λ (l : List (Path × V)). is_sorted path_cmp l ≡ true) (sym is) rises) tied)

  -- the last entry of the back is behind the path
  pub took_before : (back' : List (Path × V)) (e : Path × V) → back ≡ back' ++ e ∷ [] → path_cmp e.0 p ≡ Greater → Taken path_cmp all front (e ∷ reverse back') p None
  took_before back' e last above =
      let is : front ++ e ∷ reverse back' ≡ all = split_off front back back' all e whole last in
      subst (λ (l : List (Path × V)). Taken path_cmp l front (e ∷ reverse back') p None) is
      (taken_before total front e (reverse back') p before (subst (λ (l : List (Path × V)). is_sorted path_cmp l ≡ true) (sym is) rises) above)

  -- the back is empty
  pub took_none : back ≡ [] → Taken path_cmp all front [] p None
  took_none none =
      subst (λ (l : List (Path × V)). Taken path_cmp l front [] p None) (ap (λ l. front ++ reverse l) (sym none) ∙ whole)
      (taken_last total front p before)

-- while something is left to be moved there is room for it
pub room_left : {X : Type 0} (front back front0 back0 back' : List X) (x : X) (room : ℕ) → front ++ reverse back ≡ front0 ++ reverse back0 → back ≡ back' ++ x ∷ [] → length front0 + length back0 ≤ room → length front < room
room_left front back front0 back0 back' x room whole last fits =
    omega (arith, ap length whole, length_whole front back, length_whole front0 back0, ap length last, length-append back' (x ∷ []))

pub fewer_left : {X : Type 0} (front back front0 back0 back' : List X) (x : X) → front ++ reverse back ≡ front0 ++ reverse back0 → back ≡ back' ++ x ∷ [] → length front + length back' + 1 ≡ length front0 + length back0
fewer_left front back front0 back0 back' x whole last =
    omega (arith, ap length whole, length_whole front back, length_whole front0 back0, ap length last, length-append back' (x ∷ []))

module _ {V : Type 0} (inside entries new : List (Path × V)) (p : Path) (i : ℕ) (is : inside ≡ entries) where
  -- a value that is set at the place of a path is put at the path
  pub set_is_put : (v : V) → is_sorted path_cmp entries ≡ true → i < length entries → HasKeyAt path_cmp entries p i → ((d : Path × V) → new ≡ set inside i ((get_or inside i d).0, v)) → new ≡ put path_cmp p v entries
  set_is_put v s l h now = set_place total entries new p v i s l h (λ d. now d ∙ ap (λ es. set es i ((get_or es i d).0, v)) is)

  -- so is an entry in a path's gap
  pub insert_is_put : (v : V) → IsGapAt path_cmp entries p i → new ≡ insert inside i (p, v) → new ≡ put path_cmp p v entries
  insert_is_put v g now = now ∙ ap (λ es. insert es i (p, v)) is ∙ sym (put_gap total entries p v i g)

  -- what is left after the entry at a path's place is taken away
  pub remove_is_without : is_sorted path_cmp entries ≡ true → i < length entries → HasKeyAt path_cmp entries p i → new ≡ remove inside i → new ≡ without entries p
  remove_is_without s l h now = now ∙ ap (λ es. remove es i) is ∙ remove_place total entries p i s l h

  -- a value that is set leaves as many entries
  pub length_set : (v : V) → i < length entries → ((d : Path × V) → new ≡ set inside i ((get_or inside i d).0, v)) → length new ≡ length entries
  length_set v l now = first_of_these inside (λ d. ap length (now d) ∙ length-set inside i ((get_or inside i d).0, v) ∙ ap length is) (subst (λ (es : List (Path × V)). i < length es) (sym is) l)
    where
      first_of_these : (es : List (Path × V)) → ((d : Path × V) → length new ≡ length entries) → i < length es → length new ≡ length entries
      first_of_these [] f l = absurd (omega arith)
      first_of_these (e ∷ es) f l = f e

-- what holds of either list that a call may leave
pub either : {T E V : Type 0} (P : List (Path × V) → Type 0) (r : Result T E) (new one other : List (Path × V)) → OnOk r (new ≡ one) → OnErr r (new ≡ other) → P one → P other → P new
either P (Ok x) new one other e f s t = subst P (sym e) s
either P (Err x) new one other e f s t = subst P (sym f) t
