-- What versions count for once paths have others.
use Rattle.std.proofs.Common.{◌≡◌, ℕ, zero, suc, ◌+◌, ◌<◌, true, false, cond, List, [], ◌∷◌, ◌++◌, take, length, get_or, Option, Some, None, sum_by, refl, sym, ap, ◌∙◌, arith}
use Rattle.std.specs.Prelude.{◌-◌, ◌^◌, ◌≢◌, ◌==◌, min}
use Rattle.std.specs.Option.{unwrap_or}
use Rattle.std.specs.Ordering.{eq_by_cmp, is_eq, is_lt, ordering_reverse}
use Rattle.std.specs.declared.cmp.Ordering.TheVariants.{Less, Equal, Greater}
use Rattle.std.specs.FinMap.{find, put, is_sorted}
use Rattle.std.specs.FinMap.Entries.{find-put, below_all, by_order}
use Rattle.std.specs.Cmp.Lexicographic.{lists_total, nat_list_cmp_total}
use Rattle.std.proofs.lemmas.Bool.{ne_eqb}
use Rattle.std.proofs.lemmas.List.Sums.{sum_by-cons}
use Rattle.std.proofs.lemmas.List.{take_more}
use Rattle.wse_path.specs.Path.{Path, text_of}
use Rattle.wse_path.specs.Order.{path_cmp}
use Rattle.wse_path.specs.PathMap.{capped}
use Rattle.wse_path.specs.Versions.{Numbers, known}
use Rattle.wse_path.specs.declared.change.Numbered.{Numbered}
use Rattle.wse_path.proofs.EntryLemmas.{and_parts, less_so}
use Rattle.wse_path.proofs.SumLemmas.{capped_more}
use Rattle.wse_path.proofs.PutLemmas.{below_so, sorted_put}
use Rattle.wse_history.specs.Done.{pairs_of, with_versions, new_known}
use Rattle.wse_history.specs.History.{HasNoZero}

-- what an entry counts for
abbrev weight : Path × ℕ → ℕ
weight e = 32 + length (text_of e.0)

abbrev pub counted : Numbers → ℕ
counted es = sum_by (λ e. 32 + length (text_of e.0)) es

below_trans : (x y : Path) (es : Numbers) → path_cmp x y ≡ Less → below_all path_cmp y es ≡ true → below_all path_cmp x es ≡ true
below_trans x y [] l h = refl
below_trans x y (e ∷ es) l h =
    let parts = and_parts (is_lt (path_cmp y e.0)) (below_all path_cmp y es) h in
    rw ((lists_total nat_list_cmp_total).trans x y e.0 l (less_so (path_cmp y e.0) parts.0)) (below_trans x y es l parts.1)

-- what a put adds
abbrev pub come : Option ℕ → Path → ℕ
come None p = 32 + length (text_of p)
come (Some n) p = 0

sum_three : (a b c : ℕ) → a + (b + c) ≡ (b + c) + a
sum_three a b c = omega arith

sum_behind : (a b c d : ℕ) → b ≡ c + d → a + b ≡ (a + c) + d
sum_behind a b c d e = omega (arith, e)

pub counted_put : (p : Path) (n : ℕ) (es : Numbers) → is_sorted path_cmp es ≡ true → counted (put path_cmp p n es) ≡ counted es + come (find path_cmp p es) p
counted_put p n [] s = grind (arith, sum_by-cons (λ (e : Path × ℕ). 32 + length (text_of e.0)) (p, n) [])
counted_put p n (e ∷ es) s =
    let parts = and_parts (below_all path_cmp e.0 es) (is_sorted path_cmp es) s in
    let w : Path × ℕ → ℕ = λ x. 32 + length (text_of x.0) in
    elim (path_cmp p e.0) as (λ r. path_cmp p e.0 ≡ r → sum_by w (by_order r ((p, n) ∷ e ∷ es) ((e.0, n) ∷ es) (e ∷ put path_cmp p n es)) ≡ sum_by w (e ∷ es) + come (cond (is_eq r) (Some e.1) (find path_cmp p es)) p) [
      | Less ↦ λ l.
          sum_by-cons w (p, n) (e ∷ es) ∙ comm_to (w (p, n)) (sum_by w (e ∷ es))
          ∙ ap (λ o. sum_by w (e ∷ es) + come o p) (sym (below_so p es (below_trans p e.0 es l parts.0)))
      | Equal ↦ λ l. sum_by-cons w (e.0, n) es ∙ sym (sum_by-cons w e es) ∙ plus_none (sum_by w (e ∷ es))
      | Greater ↦ λ l. sum_by-cons w e (put path_cmp p n es) ∙ sum_behind (w e) _ (sum_by w es) (come (find path_cmp p es) p) (counted_put p n es parts.1) ∙ ap (λ t. t + come (find path_cmp p es) p) (sym (sum_by-cons w e es))
    ] refl
  where
    comm_to : (a b : ℕ) → a + b ≡ b + a
    comm_to a b = omega arith

    plus_none : (a : ℕ) → a ≡ a + 0
    plus_none a = omega arith

-- ---- paths that come one after another

with_versions-append : (xs ys : List Numbered) (vs : Numbers) → with_versions (xs ++ ys) vs ≡ with_versions ys (with_versions xs vs)
with_versions-append [] ys vs = refl
with_versions-append (x ∷ xs) ys vs = with_versions-append xs ys (put path_cmp x.path x.number vs)

sorted_with : (xs : List Numbered) (vs : Numbers) → is_sorted path_cmp vs ≡ true → is_sorted path_cmp (with_versions xs vs) ≡ true
sorted_with [] vs s = s
sorted_with (x ∷ xs) vs s = sorted_with xs (put path_cmp x.path x.number vs) (sorted_put x.path x.number vs s)

-- paths that all come before another leave its version
later_not : (x y : Path) → path_cmp x y ≡ Less → eq_by_cmp path_cmp y x ≡ false
later_not x y l = ap is_eq ((lists_total nat_list_cmp_total).antisymm y x ∙ ap ordering_reverse l)

abbrev AllBefore : List Numbered → Path → Type 0
AllBefore [] q = Unit {0}
AllBefore (x ∷ xs) q = (path_cmp x.path q ≡ Less) × AllBefore xs q

find_with : (xs : List Numbered) (vs : Numbers) (q : Path) → AllBefore xs q → find path_cmp q (with_versions xs vs) ≡ find path_cmp q vs
find_with [] vs q h = refl
find_with (x ∷ xs) vs q h =
    find_with xs (put path_cmp x.path x.number vs) q h.1
    ∙ find-put path_cmp (lists_total nat_list_cmp_total) q x.path x.number vs
    ∙ ap (λ b. cond b (Some x.number) (find path_cmp q vs)) (later_not x.path q h.0)

before_at : (xs : List Numbered) (i : ℕ) (d : Numbered) → is_sorted path_cmp (pairs_of xs) ≡ true → i < length xs → AllBefore (take i xs) (get_or xs i d).path
before_at [] i d s l = absurd (omega arith)
before_at (x ∷ xs) zero d s l = tt
before_at (x ∷ xs) (suc i) d s l =
    let parts = and_parts (below_all path_cmp x.path (pairs_of xs)) (is_sorted path_cmp (pairs_of xs)) s in
    (below_at x.path xs i d parts.0 (omega arith), before_at xs i d parts.1 (omega arith))
  where
    below_at : (p : Path) (ys : List Numbered) (k : ℕ) (d : Numbered) → below_all path_cmp p (pairs_of ys) ≡ true → k < length ys → path_cmp p (get_or ys k d).path ≡ Less
    below_at p [] k d h l = absurd (omega arith)
    below_at p (y ∷ ys) zero d h l = less_so (path_cmp p y.path) (and_parts (is_lt (path_cmp p y.path)) (below_all path_cmp p (pairs_of ys)) h).0
    below_at p (y ∷ ys) (suc k) d h l = below_at p ys k d (and_parts (is_lt (path_cmp p y.path)) (below_all path_cmp p (pairs_of ys)) h).1 (omega arith)

module _ (vs : Numbers) (changed : List Numbered) (there : HasNoZero vs) (sorted : is_sorted path_cmp vs ≡ true) (rises : is_sorted path_cmp (pairs_of changed) ≡ true) where
  with_next : (i : ℕ) (d : Numbered) → i < length changed → counted (with_versions (take (i + 1) changed) vs) ≡ counted (with_versions (take i changed) vs) + come (find path_cmp (get_or changed i d).path vs) (get_or changed i d).path
  with_next i d l =
      let one = get_or changed i d in
      ap (λ xs. counted (with_versions xs vs)) (take_more changed i d l)
      ∙ ap counted (with_versions-append (take i changed) (one ∷ []) vs)
      ∙ counted_put one.path one.number (with_versions (take i changed) vs) (sorted_with (take i changed) vs sorted)
      ∙ ap (λ o. counted (with_versions (take i changed) vs) + come o one.path) (find_with (take i changed) vs one.path (before_at changed i d rises l))

  -- what a path adds, by its entry and by its version
  come_is : (o : Option ℕ) (p : Path) → o ≢ Some 0 → come o p ≡ cond (unwrap_or o 0 == 0) (32 + length (text_of p)) 0
  come_is None p h = refl
  come_is (Some zero) p h = absurd (h refl)
  come_is (Some (suc k)) p h = sym (ap (λ b. cond b (32 + length (text_of p)) 0) (ne_eqb (suc k) 0 (λ e. absurd (omega (arith, e)))))

  -- one path more
  pub known_more : (i n : ℕ) (d : Numbered) → i < length changed → d ≡ get_or changed i d → n ≡ known (with_versions (take i changed) vs)
      → min (n + new_known vs d.path) (2 ^ 64 - 1) ≡ known (with_versions (take (i + 1) changed) vs)
  known_more i n d l at is =
      let one = get_or changed i d in
      let sum = counted (with_versions (take i changed) vs) in
      capped_more n sum (new_known vs d.path) is
      ∙ ap capped (ap (λ (x : Numbered). sum + new_known vs x.path) at ∙ sym (with_next i d l ∙ ap (λ k. sum + k) (come_is (find path_cmp one.path vs) one.path (there one.path))))
