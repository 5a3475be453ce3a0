-- What is under a path stands right behind it in path order.
use Rattle.std.proofs.Common.{◌≡◌, ℕ, zero, suc, ◌<◌, Bool, true, false, cond, ◌&&◌, ◌||◌, List, [], ◌∷◌, length, take, drop, get_or, slice_get, nat_lt, Some, None, refl, sym, ◌∙◌, ap, arith}
use Rattle.std.specs.List.{list_any}
use Rattle.std.specs.Option.{unwrap_or}
use Rattle.std.proofs.lemmas.Option.{unwrap_or-slice_get}
use Rattle.std.specs.FinMap.{is_sorted}
use Rattle.std.specs.FinMap.Entries.{where_key, below_all}
use Rattle.std.specs.Cmp.Lexicographic.{pointwise}
use Rattle.std.proofs.lemmas.Bool.Decides.{nat_tests}
use Rattle.std.specs.Str.{bytes_eq}
use Rattle.std.specs.Ordering.{nat_cmp, is_eq, is_lt, ordering_then, ordering_reverse}
use Rattle.std.specs.declared.cmp.Ordering.TheVariants.{Less, Equal, Greater}
use Rattle.std.specs.Cmp.Lexicographic.{slice_cmp, nat_list_cmp_total}
use Rattle.std.proofs.lemmas.Map.Text.{is_eq-slice_cmp}
use Rattle.std.proofs.lemmas.Bool.{le-ltb, lt-ltb}
use Rattle.wse_path.specs.Path.{Path, is_under}
use Rattle.wse_path.specs.Order.{path_cmp}
use Rattle.wse_path.proofs.PathOrder.{total}
use Rattle.wse_path.proofs.EntryLemmas.{and_parts, equal_so, less_so, sorted_behind, below_behind}

-- `is_under`, segment by segment
abbrev below : Path → Path → Bool
below [] q = false
below (x ∷ xs) [] = true
below (x ∷ xs) (y ∷ ys) = bytes_eq y x && below xs ys

exchanged : (a b c : Bool) → (a && (b && c)) ≡ (b && (a && c))
exchanged true b c = refl
exchanged false true c = refl
exchanged false false c = refl

one_more : (a b : ℕ) → nat_lt (suc a) (suc b) ≡ nat_lt a b
one_more a b = grind (arith, nat_tests)

below_is : (p q : Path) → is_under p q ≡ below p q
below_is [] q = rw (le-ltb (length q) 0 (omega arith))
below_is (x ∷ xs) [] = rw (lt-ltb 0 (suc (length xs)) (omega arith))
below_is (x ∷ xs) (y ∷ ys) =
    ap (λ b. b && (bytes_eq y x && pointwise bytes_eq ys (take (length ys) xs))) (one_more (length ys) (length xs))
    ∙ exchanged (nat_lt (length ys) (length xs)) (bytes_eq y x) (pointwise bytes_eq ys (take (length ys) xs))
    ∙ ap (λ b. bytes_eq y x && b) (below_is xs ys)

same_order : (x y : List ℕ) → bytes_eq x y ≡ true → slice_cmp nat_cmp x y ≡ Equal
same_order x y e = equal_so (slice_cmp nat_cmp x y) (is_eq-slice_cmp x y ∙ e)

behind_it : (q p : Path) → below q p ≡ true → path_cmp p q ≡ Less
behind_it [] p h = cc
behind_it (x ∷ xs) [] h = refl
behind_it (x ∷ xs) (y ∷ ys) h =
    let parts = and_parts (bytes_eq y x) (below xs ys) h in
    ap (λ o. ordering_then o (path_cmp ys xs)) (same_order y x parts.0) ∙ behind_it xs ys parts.1

between : (p a b : Path) → path_cmp p a ≡ Less → path_cmp a b ≡ Less → below b p ≡ true → below a p ≡ true
between [] [] b l m h = cc
between [] (x ∷ xs) b l m h = refl
between (y ∷ ys) a [] l m h = cc
between (y ∷ ys) [] (z ∷ zs) l m h = cc
between (y ∷ ys) (x ∷ xs) (z ∷ zs) l m h =
    let parts = and_parts (bytes_eq y z) (below zs ys) h in
    let order = nat_list_cmp_total in
    -- the first segments of p and b are the same, so that of a lies to both alike
    let turned : slice_cmp nat_cmp x z ≡ ordering_reverse (slice_cmp nat_cmp y x) = order.antisymm x z ∙ ap ordering_reverse (sym (order.congr y z x (same_order y z parts.0))) in
    let m' : ordering_then (ordering_reverse (slice_cmp nat_cmp y x)) (path_cmp xs zs) ≡ Less = ap (λ o. ordering_then o (path_cmp xs zs)) (sym turned) ∙ m in
    elim (slice_cmp nat_cmp y x) as (λ o. slice_cmp nat_cmp y x ≡ o → ordering_then o (path_cmp ys xs) ≡ Less → ordering_then (ordering_reverse o) (path_cmp xs zs) ≡ Less → (bytes_eq y x && below xs ys) ≡ true) [
      | Less ↦ λ e l n. cc
      | Equal ↦ λ e l n. ap (λ b. b && below xs ys) (sym (is_eq-slice_cmp y x) ∙ ap is_eq e) ∙ between ys xs zs l n parts.1
      | Greater ↦ λ e l n. cc
    ] refl l m'

-- a path comes before what is under it
pub under_behind : (q p : Path) → is_under q p ≡ true → path_cmp p q ≡ Less
under_behind q p h = behind_it q p (sym (below_is q p) ∙ h)

-- what stands between a path and one under it is under it too
pub under_between : (p a b : Path) → path_cmp p a ≡ Less → path_cmp a b ≡ Less → is_under b p ≡ true → is_under a p ≡ true
under_between p a b l m h = below_is a p ∙ between p a b l m (sym (below_is b p) ∙ h)

not_under : (p a b : Path) → path_cmp p a ≡ Less → path_cmp a b ≡ Less → is_under a p ≡ false → is_under b p ≡ false
not_under p a b l m miss =
    elim (is_under b p) as (λ t. is_under b p ≡ t → t ≡ false) [
      | true ↦ λ u. sym (under_between p a b l m u) ∙ miss
      | false ↦ λ u. refl
    ] refl

pub not_behind : (p q : Path) → is_lt (path_cmp p q) ≡ false → is_under q p ≡ false
not_behind p q miss =
    elim (is_under q p) as (λ t. is_under q p ≡ t → t ≡ false) [
      | true ↦ λ u. sym (ap is_lt (under_behind q p u)) ∙ miss
      | false ↦ λ u. refl
    ] refl

-- some entry is left
abbrev pub some_left : {A : Type 0} → List A → Bool
some_left [] = false
some_left (x ∷ xs) = true

pub any_where : {X : Type 0} (f : Path → Bool) (es : List (Path × X)) → list_any (λ e. f e.0) es ≡ some_left (where_key path_cmp f es)
any_where f [] = refl
any_where f (e ∷ es) = elim (f e.0) as (λ b. (b || list_any (λ x. f x.0) es) ≡ some_left (cond b (e ∷ where_key path_cmp f es) (where_key path_cmp f es))) [ true ↦ refl | false ↦ any_where f es ]

some_got : {A : Type 0} (xs : List A) (x : A) → Some x ≡ slice_get xs 0 → 0 < length xs
some_got [] x h = cc
some_got (y ∷ xs) x h = omega arith

none_got : {A : Type 0} (xs : List A) → None ≡ slice_get xs 0 → xs ≡ []
none_got [] h = refl
none_got (y ∷ xs) h = cc

module _ {X : Type 0} (p : Path) where
  -- the entries under the path
  abbrev pub where_under : List (Path × X) → List (Path × X)
  where_under es = where_key path_cmp (λ q. is_under q p) es

  -- the entries behind it
  abbrev pub where_behind : List (Path × X) → List (Path × X)
  where_behind es = where_key path_cmp (λ q. is_lt (path_cmp p q)) es

  -- behind one that is not under the path none is
  none_behind : (x : Path) (es : List (Path × X)) → path_cmp p x ≡ Less → is_under x p ≡ false → below_all path_cmp x es ≡ true → where_under es ≡ []
  none_behind x [] l miss s = refl
  none_behind x (e ∷ es) l miss s =
      let parts = and_parts (is_lt (path_cmp x e.0)) (below_all path_cmp x es) s in
      ap (λ b. cond b (e ∷ where_under es) (where_under es)) (not_under p x e.0 l (less_so _ parts.0) miss)
      ∙ none_behind x es l miss parts.1

  none_at : (es : List (Path × X)) (i : ℕ) (d : Path × X) → is_sorted path_cmp es ≡ true → below_all path_cmp p es ≡ true → i < length es → is_under (get_or es i d).0 p ≡ false → where_under (drop i es) ≡ []
  none_at [] i d s b l miss = absurd (omega arith)
  none_at (e ∷ es) zero d s b l miss =
      let low = and_parts (is_lt (path_cmp p e.0)) (below_all path_cmp p es) b in
      ap (λ t. cond t (e ∷ where_under es) (where_under es)) miss
      ∙ none_behind e.0 es (less_so _ low.0) miss (and_parts (below_all path_cmp e.0 es) (is_sorted path_cmp es) s).0
  none_at (e ∷ es) (suc i) d s b l miss =
      none_at es i d (and_parts (below_all path_cmp e.0 es) (is_sorted path_cmp es) s).1 (and_parts (is_lt (path_cmp p e.0)) (below_all path_cmp p es) b).1 (omega arith) miss

  first_tells : (es : List (Path × X)) (d : Path × X) → is_sorted path_cmp es ≡ true → below_all path_cmp p es ≡ true → 0 < length es → is_under (get_or es 0 d).0 p ≡ some_left (where_under es)
  first_tells [] d s b l = absurd (omega arith)
  first_tells (e ∷ es) d s b l =
      let low = and_parts (is_lt (path_cmp p e.0)) (below_all path_cmp p es) b in
      elim (is_under e.0 p) as (λ t. is_under e.0 p ≡ t → t ≡ some_left (cond t (e ∷ where_under es) (where_under es))) [
        | true ↦ λ u. refl
        | false ↦ λ u. ap some_left (sym (none_behind e.0 es (less_so _ low.0) u (and_parts (below_all path_cmp e.0 es) (is_sorted path_cmp es) s).0))
      ] refl

  -- all that is under the path is behind it
  pub under_of_behind : (es : List (Path × X)) → where_under (where_behind es) ≡ where_under es
  under_of_behind [] = refl
  under_of_behind (e ∷ es) =
      elim (is_lt (path_cmp p e.0)) as (λ b. is_lt (path_cmp p e.0) ≡ b → where_under (cond b (e ∷ where_behind es) (where_behind es)) ≡ cond (is_under e.0 p) (e ∷ where_under es) (where_under es)) [
        | true ↦ λ t. ap (λ r. cond (is_under e.0 p) (e ∷ r) r) (under_of_behind es)
        | false ↦ λ t. under_of_behind es ∙ ap (λ b. cond b (e ∷ where_under es) (where_under es)) (sym (not_behind p e.0 t))
      ] refl

  -- from the first that is behind the path and not under it on, none is under it
  pub none_from : (es : List (Path × X)) (i : ℕ) (d : Path × X) → is_sorted path_cmp es ≡ true → i < length (where_behind es) → is_under (get_or (where_behind es) i d).0 p ≡ false → where_under (drop i (where_behind es)) ≡ []
  none_from es i d s l miss = none_at (where_behind es) i d (sorted_behind total es p s) (below_behind total es p) l miss

  -- the same of the first
  pub none_first : (e : Path × X) (es : List (Path × X)) → is_sorted path_cmp (e ∷ es) ≡ true → below_all path_cmp p (e ∷ es) ≡ true → is_under e.0 p ≡ false → where_under (e ∷ es) ≡ []
  none_first e es s b miss = none_at (e ∷ es) 0 e s b (omega arith) miss

  -- some entry is under the path where the first one behind it is
  pub any_first : (es : List (Path × X)) (e : Path × X) → is_sorted path_cmp es ≡ true → Some e ≡ slice_get (where_behind es) 0 → is_under e.0 p ≡ list_any (λ x. is_under x.0 p) es
  any_first es e s h =
      let read : e ≡ get_or (where_behind es) 0 e = ap (λ o. unwrap_or o e) h ∙ unwrap_or-slice_get (where_behind es) 0 e in
      ap (λ (x : Path × X). is_under x.0 p) read
      ∙ first_tells (where_behind es) e (sorted_behind total es p s) (below_behind total es p) (some_got (where_behind es) e h)
      ∙ ap some_left (under_of_behind es)
      ∙ sym (any_where (λ q. is_under q p) es)

  pub any_none : (es : List (Path × X)) → None ≡ slice_get (where_behind es) 0 → false ≡ list_any (λ e. is_under e.0 p) es
  any_none es h = ap (λ r. some_left (where_under r)) (sym (none_got (where_behind es) h)) ∙ ap some_left (under_of_behind es) ∙ sym (any_where (λ q. is_under q p) es)
