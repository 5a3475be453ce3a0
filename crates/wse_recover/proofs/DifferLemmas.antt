-- Paths at which the tree isn't as the records say.
use Rattle.std.proofs.Common.{◌≡◌, ◌⊎◌, inl, inr, ⊎_elim, ℕ, eqb, Bool, true, false, cond, not, ◌&&◌, ◌||◌, List, [], ◌∷◌, ◌++◌, Option, Some, None, refl, sym, ap, subst, ◌∙◌, append_assoc}
use Rattle.std.specs.Prelude.{filter, is_some, option_map, slice_get}
use Rattle.std.specs.List.{list_any, last_or}
use Rattle.std.specs.FinMap.{is_sorted}
use Rattle.std.specs.FinMap.Entries.{below_all}
use Rattle.std.specs.Option.{option_map_or}
use Rattle.std.specs.Ordering.{eq_by_cmp, is_lt}
use Rattle.std.proofs.lemmas.Bool.{eq-eqb, or_parts}
use Rattle.wse_path.specs.Path.{Path}
use Rattle.wse_path.specs.Order.{path_cmp, is_named}
use Rattle.wse_path.specs.Tree.{Entries, content}
use Rattle.wse_path.proofs.EntryLemmas.{and_parts}
use Rattle.wse_path.proofs.PathOrder.{same_path}
use Rattle.wse_element.specs.Record.{Record}
use Rattle.wse_element.specs.Live.{is_live_at}
use Rattle.wse_element.specs.Stacks.{past, future, closest_past, closest_future, ids, has_id, record_of}
use Rattle.wse_element.specs.Linked.{are_different, is_left_by, is_found_by}
use Rattle.wse_element.proofs.AfterLemmas.{ends_with, begins_with}
use Rattle.wse_element.proofs.CloseLemmas.{In, in_filter, in_last, found_by_id}
use Rattle.wse_stacks.specs.Paths.{keyed, AreLivePaths}
use Rattle.wse_recover.specs.Differing.{differs, AreDiffering}

-- ---- the closest record by its id

some_of : (r : Record) (xs : List Record) → In r xs → is_some (record_of xs r.id) ≡ true
some_of r [] h = absurd h
some_of r (x ∷ xs) h =
    elim (has_id r.id x) as (λ b. has_id r.id x ≡ b → is_some (cond b (Some x) (record_of xs r.id)) ≡ true) [
      | true ↦ λ _. refl
      | false ↦ λ e. ⊎_elim
          (λ (here : r ≡ x). let yes : has_id r.id x ≡ true = eq-eqb x.id r.id (ap (λ (y : Record). y.id) (sym here)) in cc)
          (λ (later : In r xs). some_of r xs later)
          h
    ] refl

by_id : (xs : List Record) (r : Record) (o : Option Record) → are_different (ids xs) ≡ true → In r xs → record_of xs r.id ≡ o → o ≡ Some r
by_id xs r None different there e = let some = some_of r xs there in cc
by_id xs r (Some x) different there e = ap Some (sym (found_by_id xs x r different e there))

found : (xs : List Record) (o : Option Record) (id : ℕ) → are_different (ids xs) ≡ true → ((r : Record) → o ≡ Some r → In r xs) → option_map (λ r. r.id) o ≡ Some id → record_of xs id ≡ o
found xs None id different there e = cc
found xs (Some r) id different there e =
    let same : r.id ≡ id = cc in
    subst (λ (n : ℕ). record_of xs n ≡ Some r) same (by_id xs r (record_of xs r.id) different (there r refl) refl)

pub past_found : (xs : List Record) (p : Path) (id : ℕ) → are_different (ids xs) ≡ true → option_map (λ r. r.id) (closest_past xs p) ≡ Some id → record_of xs id ≡ closest_past xs p
past_found xs p id different e =
    found xs (closest_past xs p) id different
    (λ r is. let ends = ends_with (past xs p) r is in
    in_filter r (λ x. x.done && is_live_at p x) xs (subst (λ (l : List Record). In r l) (sym ends.is) (in_last r ends.front))) e

first_in : (r : Record) (xs : List Record) → slice_get xs 0 ≡ Some r → In r xs
first_in r [] e = cc
first_in r (x ∷ xs) e = let same : x ≡ r = cc in inl (sym same)

pub future_found : (xs : List Record) (p : Path) (id : ℕ) → are_different (ids xs) ≡ true → option_map (λ r. r.id) (closest_future xs p) ≡ Some id → record_of xs id ≡ closest_future xs p
future_found xs p id different e =
    found xs (closest_future xs p) id different
    (λ r is. in_filter r (λ x. not x.done && is_live_at p x) xs (first_in r (future xs p) is)) e

-- ---- those of the paths that pass a test

named_of : (test : Path → Bool) (ps : List Path) (q : Path) → is_named (filter test ps) q ≡ (is_named ps q && test q)
named_of test [] q = refl
named_of test (p ∷ ps) q =
    elim (eq_by_cmp path_cmp q p) as (λ b. eq_by_cmp path_cmp q p ≡ b → is_named (filter test (p ∷ ps)) q ≡ ((b || is_named ps q) && test q)) [
      | true ↦ λ e. let same : test q ≡ test p = ap test (same_path q p e) in
          elim (test p) as (λ t. test p ≡ t → is_named (cond t (p ∷ filter test ps) (filter test ps)) q ≡ test q) [
            | true ↦ λ k. ap (λ b. b || is_named (filter test ps) q) e ∙ sym (same ∙ k)
            | false ↦ λ k. named_of test ps q ∙ ap (λ b. is_named ps q && b) (same ∙ k) ∙ and_false (is_named ps q) ∙ sym (same ∙ k)
          ] refl
      | false ↦ λ e.
          elim (test p) as (λ t. is_named (cond t (p ∷ filter test ps) (filter test ps)) q ≡ (is_named ps q && test q)) [
            | true ↦ ap (λ b. b || is_named (filter test ps) q) e ∙ named_of test ps q
            | false ↦ named_of test ps q
          ]
    ] refl
  where
    and_false : (b : Bool) → (b && false) ≡ false
    and_false true = refl
    and_false false = refl

below_of : (test : Path → Bool) (x : Path) (ps : List Path) → below_all path_cmp x (keyed ps) ≡ true → below_all path_cmp x (keyed (filter test ps)) ≡ true
below_of test x [] h = refl
below_of test x (p ∷ ps) h =
    let parts = and_parts (is_lt (path_cmp x p)) (below_all path_cmp x (keyed ps)) h in
    elim (test p) as (λ b. below_all path_cmp x (keyed (cond b (p ∷ filter test ps) (filter test ps))) ≡ true) [
      | true ↦ rw parts.0 (below_of test x ps parts.1)
      | false ↦ below_of test x ps parts.1
    ]

sorted_of : (test : Path → Bool) (ps : List Path) → is_sorted path_cmp (keyed ps) ≡ true → is_sorted path_cmp (keyed (filter test ps)) ≡ true
sorted_of test [] h = refl
sorted_of test (p ∷ ps) h =
    let parts = and_parts (below_all path_cmp p (keyed ps)) (is_sorted path_cmp (keyed ps)) h in
    elim (test p) as (λ b. is_sorted path_cmp (keyed (cond b (p ∷ filter test ps) (filter test ps))) ≡ true) [
      | true ↦ rw (below_of test p ps parts.0) (sorted_of test ps parts.1)
      | false ↦ sorted_of test ps parts.1
    ]

-- ---- a path at which no record is live

none_of : (kept : Record → Bool) (p : Path) (xs : List Record) → list_any (is_live_at p) xs ≡ false → filter (λ r. kept r && is_live_at p r) xs ≡ []
none_of kept p [] h = refl
none_of kept p (x ∷ xs) h =
    let parts = or_parts (is_live_at p x) (list_any (is_live_at p) xs) h in
    ap (λ b. cond (kept x && b) (x ∷ filter (λ r. kept r && is_live_at p r) xs) (filter (λ r. kept r && is_live_at p r) xs)) parts.0
    ∙ dead (kept x) (x ∷ filter (λ r. kept r && is_live_at p r) xs) (filter (λ r. kept r && is_live_at p r) xs) (none_of kept p xs parts.1)
  where
    dead : (b : Bool) (more rest : List Record) → rest ≡ [] → cond (b && false) more rest ≡ []
    dead true more rest e = e
    dead false more rest e = e

same_there : (files : Entries) (xs : List Record) (p : Path) → list_any (is_live_at p) xs ≡ false → differs files xs p ≡ false
same_there files xs p none =
    let no_past = none_of (λ r. r.done) p xs none in
    let no_future = none_of (λ r. not r.done) p xs none in
    ap (λ (l : List Record). not (option_map_or (is_left_by p (content files p)) (last_or None l) true && option_map_or (is_found_by p (content files p)) (closest_future xs p) true)) no_past
    ∙ ap (λ (l : List Record). not (option_map_or (is_found_by p (content files p)) (slice_get l 0) true)) no_future

only_live : (a b : Bool) → (a ≡ false → b ≡ false) → (a && b) ≡ b
only_live true b h = refl
only_live false b h = sym (h refl)

pub differing_of_live : (files : Entries) (xs : List Record) (ps : List Path) → AreLivePaths xs ps → AreDiffering files xs (filter (differs files xs) ps)
differing_of_live files xs ps live = record {
  rise = sorted_of (differs files xs) ps live.rise;
  each = λ p. named_of (differs files xs) ps p
      ∙ only_live (is_named ps p) (differs files xs p) (λ none. same_there files xs p (sym (live.each p) ∙ none));
}

-- one path more is tried
pub tried_more : (test : Path → Bool) (done all now : List Path) (p : Path) (rest : List Path) → done ++ filter test (p ∷ rest) ≡ all → now ≡ done ++ cond (test p) (p ∷ []) [] → now ++ filter test rest ≡ all
tried_more test done all now p rest was is =
    ap (λ (l : List Path). l ++ filter test rest) is ∙ append_assoc done (cond (test p) (p ∷ []) []) (filter test rest)
    ∙ ap (λ (l : List Path). done ++ l)
    (elim (test p) as (λ b. cond b (p ∷ []) [] ++ filter test rest ≡ cond b (p ∷ filter test rest) (filter test rest)) [ true ↦ refl | false ↦ refl ])
    ∙ was
