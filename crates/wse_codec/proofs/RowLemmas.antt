-- Rows: a count, and so many items one behind the other.
use Rattle.std.proofs.Common.{◌≡◌, ◌≢◌, ℕ, zero, suc, ◌<◌, true, List, [], ◌∷◌, ◌++◌, map, length, All, Option, Some, None, option_map, Ok, refl, sym, ap, subst, ◌∙◌, append_assoc, arith, is_lt, Ordering, Less, Equal, Greater}
use Rattle.std.specs.List.{flat_map, AllByRecursion}
use Rattle.std.specs.FinMap.{is_sorted}
use Rattle.std.specs.FinMap.Entries.{below_all}
use Rattle.std.proofs.lemmas.Bool.{and_parts, and_from}
use Rattle.std.proofs.lemmas.List.Elements.{All-from_recursion, recursion_from_All}
use Rattle.wse_path.specs.Path.{Path}
use Rattle.wse_path.specs.Order.{path_cmp}
use Rattle.wse_path.proofs.PathOrder.{total}
use Rattle.wse_codec.specs.Pieces.{Read, ◌>>=◌, row_at}
use Rattle.wse_codec.specs.Reading.{is_behind}
use Rattle.wse_codec.proofs.FieldLemmas.{IsBytes, IsPiece, Takes, then_takes, takes_nothing, step, bind_ok, ok_is}

-- Each item has what is asked of it behind the one before it.
abbrev pub Each : {V : Type 0} → (Option V → V → Type 0) → Option V → List V → Type 0
Each P before [] = Unit {0}
Each P before (v ∷ vs) = P before v × Each P (Some v) vs

row_takes : {V : Type 0} (item : Option V → List ℕ → Read V) (spelling : V → List ℕ) (P : Option V → V → Type 0)
    → ((before : Option V) → IsPiece (item before) spelling (P before))
    → (before : Option V) (n : ℕ) (bytes : List ℕ) (x : List V × List ℕ) → IsBytes bytes → row_at item before n bytes ≡ Ok x
    → Takes bytes (flat_map spelling x.0) x.1 × ((length x.0 ≡ n) × Each P before x.0)
unfolding row_at
row_takes {V = V} item spelling P pieces before zero bytes x fits e =
    subst (λ (y : List V × List ℕ). Takes bytes (flat_map spelling y.0) y.1 × ((length y.0 ≡ 0) × Each P before y.0)) (ok_is ([], bytes) x e) (takes_nothing bytes fits, (refl, tt))
row_takes {V = V} item spelling P pieces before (suc n) bytes x fits e =
    let a = step (pieces before) bytes (λ first. row_at item (Some first.0) n first.1 >>= λ others. Ok (first.0 ∷ others.0, others.1)) x fits e in
    let b = bind_ok (row_at item (Some a.value) n a.rest) (λ others. Ok (a.value ∷ others.0, others.1)) x a.goes_on in
    let t = row_takes item spelling P pieces (Some a.value) n a.rest b.0 a.took.rest_fits b.1 in
    let both : Takes bytes (spelling a.value ++ flat_map spelling b.0.0) b.0.1 = then_takes a.took t.0 in
    subst (λ (y : List V × List ℕ). Takes bytes (flat_map spelling y.0) y.1 × ((length y.0 ≡ suc n) × Each P before y.0)) (ok_is (a.value ∷ b.0.0, b.0.1) x b.2) (both, (ap suc t.1.0, (a.allowed, t.1.1)))

row_again : {V : Type 0} (item : Option V → List ℕ → Read V) (spelling : V → List ℕ) (P : Option V → V → Type 0)
    → ((before : Option V) → IsPiece (item before) spelling (P before))
    → (before : Option V) (vs : List V) (rest : List ℕ) → Each P before vs
    → row_at item before (length vs) (flat_map spelling vs ++ rest) ≡ Ok (vs, rest)
unfolding row_at
row_again item spelling P pieces before [] rest h = refl
row_again {V = V} item spelling P pieces before (v ∷ vs) rest h =
    let regrouped : (spelling v ++ flat_map spelling vs) ++ rest ≡ spelling v ++ (flat_map spelling vs ++ rest) = append_assoc (spelling v) (flat_map spelling vs) rest in
    let first = (pieces before).again v (flat_map spelling vs ++ rest) h.0 in
    let others = row_again item spelling P pieces (Some v) vs rest h.1 in
    ap (row_at item before (suc (length vs))) regrouped ∙ rw (first, others) refl

pub row : {V : Type 0} {item : Option V → List ℕ → Read V} {spelling : V → List ℕ} {P : Option V → V → Type 0}
    → ((before : Option V) → IsPiece (item before) spelling (P before))
    → (before : Option V) (n : ℕ) → IsPiece (row_at item before n) (flat_map spelling) (λ vs. (length vs ≡ n) × Each P before vs)
row {V = V} {item = item} {spelling = spelling} {P = P} pieces before n = record {
  takes = row_takes item spelling P pieces before n;
  again = λ vs rest h. subst (λ (k : ℕ). row_at item before k (flat_map spelling vs ++ rest) ≡ Ok (vs, rest)) h.0 (row_again item spelling P pieces before vs rest h.1);
}

-- A count and its row.
counted_takes : {V : Type 0} (count : List ℕ → Read ℕ) (spell : ℕ → List ℕ) (Q : ℕ → Type 0) → IsPiece count spell Q
    → (item : Option V → List ℕ → Read V) (spelling : V → List ℕ) (P : Option V → V → Type 0)
    → ((before : Option V) → IsPiece (item before) spelling (P before))
    → (bytes : List ℕ) (x : List V × List ℕ) → IsBytes bytes → (count bytes >>= λ n. row_at item None n.0 n.1) ≡ Ok x
    → Takes bytes (spell (length x.0) ++ flat_map spelling x.0) x.1 × (Q (length x.0) × Each P None x.0)
counted_takes count spell Q piece item spelling P pieces bytes x fits e =
    let a = step piece bytes (λ n. row_at item None n.0 n.1) x fits e in
    let t = row_takes item spelling P pieces None a.value a.rest x a.took.rest_fits a.goes_on in
    let both = then_takes a.took t.0 in
    subst (λ (n : ℕ). Takes bytes (spell n ++ flat_map spelling x.0) x.1 × (Q n × Each P None x.0)) (sym t.1.0) (both, (a.allowed, t.1.1))

counted_again : {V : Type 0} (count : List ℕ → Read ℕ) (spell : ℕ → List ℕ) (Q : ℕ → Type 0) → IsPiece count spell Q
    → (item : Option V → List ℕ → Read V) (spelling : V → List ℕ) (P : Option V → V → Type 0)
    → ((before : Option V) → IsPiece (item before) spelling (P before))
    → (vs : List V) (rest : List ℕ) → Q (length vs) × Each P None vs
    → (count ((spell (length vs) ++ flat_map spelling vs) ++ rest) >>= λ n. row_at item None n.0 n.1) ≡ Ok (vs, rest)
counted_again count spell Q piece item spelling P pieces vs rest h =
    let regrouped = append_assoc (spell (length vs)) (flat_map spelling vs) rest in
    let first = piece.again (length vs) (flat_map spelling vs ++ rest) h.0 in
    rw (regrouped, first) (row_again item spelling P pieces None vs rest h.1)

pub counted : {V : Type 0} {count : List ℕ → Read ℕ} {spell : ℕ → List ℕ} {Q : ℕ → Type 0} → IsPiece count spell Q
    → {item : Option V → List ℕ → Read V} {spelling : V → List ℕ} {P : Option V → V → Type 0}
    → ((before : Option V) → IsPiece (item before) spelling (P before))
    → IsPiece (λ bytes. count bytes >>= λ n. row_at item None n.0 n.1) (λ vs. spell (length vs) ++ flat_map spelling vs) (λ vs. Q (length vs) × Each P None vs)
counted {count = count} {spell = spell} {Q = Q} piece {item = item} {spelling = spelling} {P = P} pieces = record {
  takes = counted_takes count spell Q piece item spelling P pieces;
  again = counted_again count spell Q piece item spelling P pieces;
}

-- ---- what is asked of each

-- What is asked of each item alone.
pub recursion_from_each : {V : Type 0} (Q : Option V → V → Type 0) (P : V → Type 0) → ((before : Option V) (v : V) → Q before v → P v)
    → (before : Option V) (vs : List V) → Each Q before vs → AllByRecursion P vs
recursion_from_each Q P to before [] h = tt
recursion_from_each Q P to before (v ∷ vs) h = (to before v h.0, recursion_from_each Q P to (Some v) vs h.1)

pub each_from_recursion : {V : Type 0} (P : V → Type 0) (Q : Option V → V → Type 0) → ((before : Option V) (v : V) → P v → Q before v)
    → (before : Option V) (vs : List V) → AllByRecursion P vs → Each Q before vs
each_from_recursion P Q to before [] h = tt
each_from_recursion P Q to before (v ∷ vs) h = (to before v h.0, each_from_recursion P Q to (Some v) vs h.1)

pub all_from_each : {V : Type 0} (Q : Option V → V → Type 0) (P : V → Type 0) → ((before : Option V) (v : V) → Q before v → P v)
    → (before : Option V) (vs : List V) → Each Q before vs → All P vs
all_from_each Q P to before vs h = All-from_recursion P vs (recursion_from_each Q P to before vs h)

pub each_from_all : {V : Type 0} (P : V → Type 0) (Q : Option V → V → Type 0) → ((before : Option V) (v : V) → P v → Q before v)
    → (before : Option V) (vs : List V) → All P vs → Each Q before vs
each_from_all P Q to before vs h = each_from_recursion P Q to before vs (recursion_from_All P vs h)

-- Two things at once.
pub both_each : {V : Type 0} (P Q R : Option V → V → Type 0) → ((before : Option V) (v : V) → P before v → Q before v → R before v)
    → (before : Option V) (vs : List V) → Each P before vs → Each Q before vs → Each R before vs
both_each P Q R join before [] p q = tt
both_each P Q R join before (v ∷ vs) p q = (join before v p.0 q.0, both_each P Q R join (Some v) vs p.1 q.1)

pub weaker_each : {V : Type 0} (P Q : Option V → V → Type 0) → ((before : Option V) (v : V) → P before v → Q before v)
    → (before : Option V) (vs : List V) → Each P before vs → Each Q before vs
weaker_each P Q to before [] h = tt
weaker_each P Q to before (v ∷ vs) h = (to before v h.0, weaker_each P Q to (Some v) vs h.1)

pub some_items : {V : Type 0} (vs : List V) → vs ≢ [] → 0 < length vs
some_items [] some = absurd (some refl)
some_items (v ∷ vs) some = omega arith

pub items_some : {V : Type 0} (vs : List V) → 0 < length vs → vs ≢ []
items_some [] lt e = absurd (omega (arith, lt))
items_some (v ∷ vs) lt e = absurd cc

-- ---- paths that rise

-- Its path comes behind the path of the one before it.
abbrev pub Behind : {V : Type 0} → (V → Path) → Option V → V → Type 0
Behind key before v = is_behind (option_map key before) (key v) ≡ true

less_is : (p q : Path) → is_lt (path_cmp p q) ≡ true → path_cmp p q ≡ Less
less_is p q h = by (path_cmp p q) h
  where
    by : (r : Ordering) → is_lt r ≡ true → r ≡ Less
    by Less h = refl
    by Equal h = absurd cc
    by Greater h = absurd cc

less_trans : (p q r : Path) → is_lt (path_cmp p q) ≡ true → is_lt (path_cmp q r) ≡ true → is_lt (path_cmp p r) ≡ true
less_trans p q r h k = ap is_lt (total.trans p q r (less_is p q h) (less_is q r k))

below_behind : {V X : Type 0} (key : V → Path) (value : V → X) (p : Path) (vs : List V) (v : V) → is_lt (path_cmp p (key v)) ≡ true
    → Each (Behind key) (Some v) vs → below_all path_cmp p (map (λ w. (key w, value w)) (v ∷ vs)) ≡ true
unfolding is_behind
below_behind key value p [] v lt h = and_from (is_lt (path_cmp p (key v))) true lt refl
below_behind key value p (w ∷ vs) v lt h =
    and_from (is_lt (path_cmp p (key v))) (below_all path_cmp p (map (λ u. (key u, value u)) (w ∷ vs))) lt
    (below_behind key value p vs w (less_trans p (key v) (key w) lt h.0) h.1)

-- Each behind the one before it: their paths rise.
pub rise_from_each : {V X : Type 0} (key : V → Path) (value : V → X) (before : Option V) (vs : List V)
    → Each (Behind key) before vs → is_sorted path_cmp (map (λ v. (key v, value v)) vs) ≡ true
unfolding is_behind
rise_from_each key value before [] h = refl
rise_from_each key value before (v ∷ []) h = refl
rise_from_each key value before (v ∷ w ∷ vs) h =
    and_from (below_all path_cmp (key v) (map (λ u. (key u, value u)) (w ∷ vs))) (is_sorted path_cmp (map (λ u. (key u, value u)) (w ∷ vs)))
    (below_behind key value (key v) vs w h.1.0 h.1.1)
    (rise_from_each key value (Some v) (w ∷ vs) h.1)

each_behind : {V X : Type 0} (key : V → Path) (value : V → X) (v : V) (vs : List V)
    → is_sorted path_cmp (map (λ w. (key w, value w)) (v ∷ vs)) ≡ true → Each (Behind key) (Some v) vs
unfolding is_behind
each_behind key value v [] h = tt
each_behind key value v (w ∷ vs) h =
    let parts = and_parts (below_all path_cmp (key v) (map (λ u. (key u, value u)) (w ∷ vs))) (is_sorted path_cmp (map (λ u. (key u, value u)) (w ∷ vs))) h in
    let first = and_parts (is_lt (path_cmp (key v) (key w))) (below_all path_cmp (key v) (map (λ u. (key u, value u)) vs)) parts.0 in
    (first.0, each_behind key value w vs parts.1)

pub each_from_rise : {V X : Type 0} (key : V → Path) (value : V → X) (vs : List V)
    → is_sorted path_cmp (map (λ v. (key v, value v)) vs) ≡ true → Each (Behind key) None vs
unfolding is_behind
each_from_rise key value [] h = tt
each_from_rise key value (v ∷ vs) h = (refl, each_behind key value v vs h)
