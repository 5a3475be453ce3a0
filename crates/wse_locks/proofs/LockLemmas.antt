-- Look-ups among entries that are filtered, and locks path by path.
use Rattle.std.proofs.Common.{◌≡◌, ℕ, ◌+◌, ◌<◌, Bool, true, false, ◌&&◌, ◌||◌, not, cond, List, [], ◌∷◌, ◌++◌, map, length, take, drop, get_or, Option, Some, None, refl, sym, ap, ◌∙◌, arith}
use Rattle.std.specs.Prelude.{nat_eq, filter}
use Rattle.std.specs.List.{remove}
use Rattle.std.specs.FinMap.{find, is_sorted}
use Rattle.std.specs.FinMap.Entries.{below_all, same_entries}
use Rattle.std.specs.Ordering.{eq_by_cmp, is_lt}
use Rattle.std.proofs.lemmas.Cmp.{tied_back}
use Rattle.std.proofs.lemmas.List.{append_assoc, length-take-le, take_more, drop_more, get_or_at}
use Rattle.wse_path.specs.Order.{path_cmp, is_named}
use Rattle.wse_path.specs.Path.{Path}
use Rattle.wse_path.proofs.EntryLemmas.{and_parts, equal_so, to_so, below_tied}
use Rattle.wse_path.proofs.MergeLemmas.{find_below}
use Rattle.wse_path.proofs.PathOrder.{total, tied_path, same_path}
use Rattle.wse_locks.specs.Locks.{Holders, holder, holds, is_another, is_participant, is_held, held}

-- the value, where it passes
abbrev pub kept : {V : Type 0} → (V → Bool) → Option V → Option V
kept test None = None
kept test (Some v) = cond (test v) (Some v) None

module _ {V : Type 0} (test : Path × V → Bool) where
  below_filter : (x : Path) (es : List (Path × V)) → below_all path_cmp x es ≡ true → below_all path_cmp x (filter test es) ≡ true
  below_filter x [] h = refl
  below_filter x (e ∷ es) h =
      let parts = and_parts (is_lt (path_cmp x e.0)) (below_all path_cmp x es) h in
      elim (test e) as (λ b. below_all path_cmp x (cond b (e ∷ filter test es) (filter test es)) ≡ true) [
        | true ↦ λ i. parts.0 i && below_filter x es parts.1 i
        | false ↦ below_filter x es parts.1
      ]

  -- what a filter leaves rises
  pub sorted_filter : (es : List (Path × V)) → is_sorted path_cmp es ≡ true → is_sorted path_cmp (filter test es) ≡ true
  sorted_filter [] s = refl
  sorted_filter (e ∷ es) s =
      let parts = and_parts (below_all path_cmp e.0 es) (is_sorted path_cmp es) s in
      elim (test e) as (λ b. is_sorted path_cmp (cond b (e ∷ filter test es) (filter test es)) ≡ true) [
        | true ↦ λ i. below_filter e.0 es parts.0 i && sorted_filter es parts.1 i
        | false ↦ sorted_filter es parts.1
      ]

  -- what stands at a path among the entries that pass
  pub find_filter : (es : List (Path × V)) (q : Path) → is_sorted path_cmp es ≡ true → find path_cmp q (filter test es) ≡ kept (λ v. test (q, v)) (find path_cmp q es)
  find_filter [] q s = refl
  find_filter (e ∷ es) q s =
      let parts = and_parts (below_all path_cmp e.0 es) (is_sorted path_cmp es) s in
      elim (eq_by_cmp path_cmp q e.0) as (λ b. eq_by_cmp path_cmp q e.0 ≡ b → find path_cmp q (cond (test e) (e ∷ filter test es) (filter test es)) ≡ kept (λ v. test (q, v)) (cond b (Some e.1) (find path_cmp q es))) [
        | true ↦ λ t.
            let none : find path_cmp q (filter test es) ≡ None = find_below total (filter test es) q (below_tied total (filter test es) e.0 q (tied_back total q e.0 (equal_so _ t)) (below_filter e.0 es parts.0)) in
            elim (test e) as (λ b. find path_cmp q (cond b (e ∷ filter test es) (filter test es)) ≡ cond b (Some e.1) None) [
              | true ↦ ap (λ b. cond b (Some e.1) (find path_cmp q (filter test es))) t
              | false ↦ none
            ]
            ∙ ap (λ p. cond (test (p, e.1)) (Some e.1) None) (sym (same_path q e.0 t))
        | false ↦ λ t.
            elim (test e) as (λ b. find path_cmp q (cond b (e ∷ filter test es) (filter test es)) ≡ find path_cmp q (filter test es)) [
              | true ↦ ap (λ b. cond b (Some e.1) (find path_cmp q (filter test es))) t
              | false ↦ refl
            ]
            ∙ find_filter es q parts.1
      ] refl

or_assoc : (a b c : Bool) → (a || (b || c)) ≡ ((a || b) || c)
or_assoc true b c = refl
or_assoc false b c = refl

-- one more name
pub named_more : (files : List Path) (f q : Path) → is_named (files ++ f ∷ []) q ≡ (is_named files q || is_named (f ∷ []) q)
named_more [] f q = refl
named_more (x ∷ files) f q = ap (λ b. eq_by_cmp path_cmp q x || b) (named_more files f q) ∙ or_assoc (eq_by_cmp path_cmp q x) (is_named files q) (is_named (f ∷ []) q)

-- one more path gets the same
pub also : {A : Type 0} (a b : Bool) (x y : A) → cond b x (cond a x y) ≡ cond (a || (b || false)) x y
also true true x y = refl
also true false x y = refl
also false true x y = refl
also false false x y = refl

pub also_where : {A : Type 0} (a b c : Bool) (x y : A) → cond ((b || false) && c) x (cond (a && c) x y) ≡ cond ((a || (b || false)) && c) x y
also_where true true true x y = refl
also_where true true false x y = refl
also_where true false true x y = refl
also_where true false false x y = refl
also_where false true true x y = refl
also_where false true false x y = refl
also_where false false c x y = refl

neither : {A : Type 0} (b : Bool) (x : A) → cond b x x ≡ x
neither true x = refl
neither false x = refl

held_or_none : (named : Bool) (by : ℕ) (o : Option ℕ) → cond (named && is_another by o) o None ≡ kept (λ v. named && not (nat_eq v by)) o
held_or_none named by None = neither (named && false) None
held_or_none named by (Some v) = refl

-- locks that answer like those that another holds are these
pub held_is : (others entries : Holders) (by : ℕ) (files : List Path) → is_sorted path_cmp others ≡ true → is_sorted path_cmp entries ≡ true → ((q : Path) → holder others q ≡ cond (is_named files q && is_held entries by q) (holder entries q) None) → map (λ e. e.0) others ≡ held entries by files
held_is others entries by files s r answers =
    let test : Path × ℕ → Bool = λ e. is_named files e.0 && not (nat_eq e.1 by) in
    ap (map (λ (e : Path × ℕ). e.0))
    (same_entries path_cmp total tied_path others (filter test entries) (to_so _ s) (to_so _ (sorted_filter test entries r))
    (λ q. answers q ∙ held_or_none (is_named files q) by (holder entries q) ∙ sym (find_filter test entries q r)))

left_or_none : (b : Bool) (v : ℕ) → cond (not b) (Some v) None ≡ cond b None (Some v)
left_or_none true v = refl
left_or_none false v = refl

others_of : (by : ℕ) (o : Option ℕ) → kept (λ v. not (nat_eq v by)) o ≡ cond (is_participant by o) None o
others_of by None = refl
others_of by (Some v) = left_or_none (nat_eq v by) v

-- what another holds, path by path
pub others_hold : (entries : Holders) (by : ℕ) (q : Path) → is_sorted path_cmp entries ≡ true → holder (filter (λ e. not (nat_eq e.1 by)) entries) q ≡ cond (holds entries by q) None (holder entries q)
others_hold entries by q s = find_filter (λ (e : Path × ℕ). not (nat_eq e.1 by)) entries q s ∙ others_of by (holder entries q)

-- a path that another holds is kept among the others'
pub noted : (entries others : Holders) (by other : ℕ) (p q : Path) → holder entries p ≡ Some other → nat_eq other by ≡ false → cond (eq_by_cmp path_cmp q p) (Some other) (holder others q) ≡ cond ((eq_by_cmp path_cmp q p || false) && is_held entries by q) (holder entries q) (holder others q)
noted entries others by other p q is apart =
    elim (eq_by_cmp path_cmp q p) as (λ b. eq_by_cmp path_cmp q p ≡ b → cond b (Some other) (holder others q) ≡ cond ((b || false) && is_held entries by q) (holder entries q) (holder others q)) [
      | true ↦ λ t.
          let here : Some other ≡ holder entries q = sym is ∙ ap (holder entries) (sym (same_path q p t)) in
          ap (λ b. cond (not b) (Some other) (holder others q)) (sym apart)
          ∙ ap (λ o. cond (is_another by o) o (holder others q)) here
      | false ↦ λ t. refl
    ] refl

pub not_noted : (entries others : Holders) (by : ℕ) (p q : Path) → is_held entries by p ≡ false → holder others q ≡ cond ((eq_by_cmp path_cmp q p || false) && is_held entries by q) (holder entries q) (holder others q)
not_noted entries others by p q free =
    elim (eq_by_cmp path_cmp q p) as (λ b. eq_by_cmp path_cmp q p ≡ b → holder others q ≡ cond ((b || false) && is_held entries by q) (holder entries q) (holder others q)) [
      | true ↦ λ t. ap (λ b. cond b (holder entries q) (holder others q)) (sym free ∙ ap (is_held entries by) (sym (same_path q p t)))
      | false ↦ λ t. refl
    ] refl

remove_mid : {X : Type 0} (front : List X) (x : X) (back : List X) → remove (front ++ x ∷ back) (length front) ≡ front ++ back
remove_mid [] x back = refl
remove_mid (a ∷ front) x back = ap (λ l. a ∷ l) (remove_mid front x back)

left_one : (own : Bool) (front : Holders) (e : Path × ℕ) (back : Holders) → cond own (front ++ back) (front ++ e ∷ back) ≡ front ++ cond (not own) (e ∷ back) back
left_one true front e back = refl
left_one false front e back = refl

-- one entry more is left or taken away
pub left_more : (old entries new : Holders) (by n : ℕ) → n < length old → entries ≡ take (n + 1) old ++ filter (λ e. not (nat_eq e.1 by)) (drop (n + 1) old) → ((d : Path × ℕ) → new ≡ cond (nat_eq (get_or entries n d).1 by) (remove entries n) entries) → new ≡ take n old ++ filter (λ e. not (nat_eq e.1 by)) (drop n old)
left_more old entries new by n l is now =
    let d : Path × ℕ = ([], 0) in
    let e = get_or old n d in
    let front = take n old in
    let back = filter (λ (x : Path × ℕ). not (nat_eq x.1 by)) (drop (n + 1) old) in
    let long : length front ≡ n = length-take-le n old (omega arith) in
    let all : entries ≡ front ++ e ∷ back = is ∙ ap (λ t. t ++ back) (take_more old n d l) ∙ append_assoc front (e ∷ []) back in
    let read : get_or entries n d ≡ e = ap (λ es. get_or es n d) all ∙ get_or_at front e back d n long in
    let fewer : remove entries n ≡ front ++ back = ap (λ es. remove es n) all ∙ ap (remove (front ++ e ∷ back)) (sym long) ∙ remove_mid front e back in
    now d
    ∙ ap (λ (x : Path × ℕ). cond (nat_eq x.1 by) (remove entries n) entries) read
    ∙ (λ i. cond (nat_eq e.1 by) (fewer i) (all i))
    ∙ left_one (nat_eq e.1 by) front e back
    ∙ ap (λ es. front ++ filter (λ (x : Path × ℕ). not (nat_eq x.1 by)) es) (sym (drop_more old n d l))
