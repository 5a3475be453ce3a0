-- Rising paths are apart where neighbours are.
use Rattle.std.proofs.Common.{◌≡◌, Bool, true, false, ◌&&◌, ◌||◌, not, cond, List, [], ◌∷◌, map, length, drop, get_or, Option, None, Some, ℕ, zero, suc, ◌<◌, ◌≤◌, ◌+◌, refl, sym, ap, ◌∙◌, arith}
use Rattle.std.specs.Prelude.{filter, is_some}
use Rattle.std.specs.List.{list_any, list_all}
use Rattle.std.specs.Ordering.{is_lt, ordering_reverse}
use Rattle.std.specs.FinMap.{is_sorted}
use Rattle.std.specs.FinMap.Entries.{below_all}
use Rattle.std.proofs.lemmas.Bool.{and_from, or_from}
use Rattle.wse_path.specs.Path.{Path, is_under}
use Rattle.wse_path.specs.Order.{path_cmp}
use Rattle.wse_path.proofs.EntryLemmas.{and_parts, less_so}
use Rattle.wse_path.proofs.PathOrder.{total}
use Rattle.wse_path.proofs.UnderLemmas.{under_between, not_behind}
use Rattle.wse_element.specs.declared.body.Body.{Body}
use Rattle.wse_element.specs.Content.{Content}
use Rattle.wse_element.specs.Record.{RecordPart, by_path, AreParts}
use Rattle.wse_element.specs.Live.{is_live}
use Rattle.wse_element.specs.Apart.{are_apart, paths_with}
use Rattle.wse_element.specs.Near.{rise, neighbours_apart, near_from, under_last}
use Rattle.wse_element.proofs.SplitAfterLemmas.{not_under_itself}

-- a path isn't under one behind it
not_under_later : (p q : Path) → is_lt (path_cmp p q) ≡ true → is_under p q ≡ false
not_under_later p q l = not_behind q p (ap is_lt (total.antisymm q p ∙ ap ordering_reverse (less_so (path_cmp p q) l)))

under_none_later : (p : Path) (more : List Path) → list_all (λ q. is_lt (path_cmp p q)) more ≡ true → list_any (is_under p) more ≡ false
under_none_later p [] h = refl
under_none_later p (q ∷ more) h =
    let parts = and_parts (is_lt (path_cmp p q)) (list_all (λ x. is_lt (path_cmp p x)) more) h in
    or_from (is_under p q) (list_any (is_under p) more) (not_under_later p q parts.0) (under_none_later p more parts.1)

-- where the next path isn't under it, none behind that is
none_further : (p a : Path) (more : List Path) → is_lt (path_cmp p a) ≡ true → is_under a p ≡ false → list_all (λ q. is_lt (path_cmp a q)) more ≡ true → list_any (λ q. is_under q p) more ≡ false
none_further p a [] l miss h = refl
none_further p a (b ∷ more) l miss h =
    let parts = and_parts (is_lt (path_cmp a b)) (list_all (λ x. is_lt (path_cmp a x)) more) h in
    let here : is_under b p ≡ false =
    elim (is_under b p) as (λ t. is_under b p ≡ t → t ≡ false) [
      | true ↦ λ u. sym (under_between p a b (less_so _ l) (less_so _ parts.0) u) ∙ miss
      | false ↦ λ u. refl
    ] refl in
    or_from (is_under b p) (list_any (λ q. is_under q p) more) here (none_further p a more l miss parts.1)

-- one more path to look for, which none of these is under
one_more : (p : Path) (test : Path → Bool) (qs : List Path) → list_any (λ q. is_under q p) qs ≡ false → list_all (λ q. not (is_under q p || test q)) qs ≡ list_all (λ q. not (test q)) qs
one_more p test [] h = refl
one_more p test (q ∷ qs) h =
    elim (is_under q p) as (λ u. (u || list_any (λ x. is_under x p) qs) ≡ false → (not (u || test q) && list_all (λ x. not (is_under x p || test x)) qs) ≡ (not (test q) && list_all (λ x. not (test x)) qs)) [
      | true ↦ λ e. cc
      | false ↦ λ e. ap (λ b. not (test q) && b) (one_more p test qs e)
    ] h

-- the first path is under none
first_free : (p : Path) (more : List Path) → list_all (λ q. is_lt (path_cmp p q)) more ≡ true → list_any (is_under p) (p ∷ more) ≡ false
first_free p more h = or_from (is_under p p) (list_any (is_under p) more) (not_under_itself p) (under_none_later p more h)

-- two or more paths
apart_step : (p q : Path) (more : List Path) → rise (p ∷ q ∷ more) ≡ true → are_apart (p ∷ q ∷ more) ≡ (not (is_under q p) && are_apart (q ∷ more))
apart_step p q more h =
    let parts = and_parts (list_all (λ x. is_lt (path_cmp p x)) (q ∷ more)) (rise (q ∷ more)) h in
    let next = and_parts (is_lt (path_cmp p q)) (list_all (λ x. is_lt (path_cmp p x)) more) parts.0 in
    let rest = and_parts (list_all (λ x. is_lt (path_cmp q x)) more) (rise more) parts.1 in
    ap (λ b. not b && list_all (λ x. not (list_any (is_under x) (p ∷ q ∷ more))) (q ∷ more)) (first_free p (q ∷ more) parts.0)
    ∙ elim (is_under q p) as (λ u. is_under q p ≡ u → list_all (λ x. not (is_under x p || list_any (is_under x) (q ∷ more))) (q ∷ more) ≡ (not u && are_apart (q ∷ more))) [
      | true ↦ λ u. ap (λ b. not (b || list_any (is_under q) (q ∷ more)) && list_all (λ x. not (is_under x p || list_any (is_under x) (q ∷ more))) more) u
      | false ↦ λ u. one_more p (λ x. list_any (is_under x) (q ∷ more)) (q ∷ more) (or_from (is_under q p) (list_any (λ x. is_under x p) more) u (none_further p q more next.0 u rest.0))
    ] refl

rising_near : (paths : List Path) → rise paths ≡ true → are_apart paths ≡ neighbours_apart paths
rising_near [] h = refl
rising_near (p ∷ []) h = ap (λ b. not (b || false) && true) (not_under_itself p)
rising_near (p ∷ q ∷ more) h =
    apart_step p q more h
    ∙ ap (λ b. not (is_under q p) && b) (rising_near (q ∷ more) (and_parts (list_all (λ x. is_lt (path_cmp p x)) (q ∷ more)) (rise (q ∷ more)) h).1)

-- ---- the paths of parts

below_paths : (p : Path) (parts : List RecordPart) → below_all path_cmp p (by_path parts) ≡ list_all (λ q. is_lt (path_cmp p q)) (map (λ part. part.path) parts)
below_paths p [] = refl
below_paths p (part ∷ more) = ap (λ b. is_lt (path_cmp p part.path) && b) (below_paths p more)

sorted_paths : (parts : List RecordPart) → is_sorted path_cmp (by_path parts) ≡ rise (map (λ part. part.path) parts)
sorted_paths [] = refl
sorted_paths (part ∷ more) = λ i. below_paths part.path more i && sorted_paths more i

all_filter : (kept : RecordPart → Bool) (test : Path → Bool) (parts : List RecordPart) → list_all test (map (λ part. part.path) parts) ≡ true → list_all test (map (λ part. part.path) (filter kept parts)) ≡ true
all_filter kept test [] h = refl
all_filter kept test (part ∷ more) h =
    let both = and_parts (test part.path) (list_all test (map (λ (x : RecordPart). x.path) more)) h in
    let rest = all_filter kept test more both.1 in
    elim (kept part) as (λ b. list_all test (map (λ (x : RecordPart). x.path) (cond b (part ∷ filter kept more) (filter kept more))) ≡ true) [
      | true ↦ and_from (test part.path) (list_all test (map (λ (x : RecordPart). x.path) (filter kept more))) both.0 rest
      | false ↦ rest
    ]

rise_filter : (kept : RecordPart → Bool) (parts : List RecordPart) → rise (map (λ part. part.path) parts) ≡ true → rise (map (λ part. part.path) (filter kept parts)) ≡ true
rise_filter kept [] h = refl
rise_filter kept (part ∷ more) h =
    let both = and_parts (list_all (λ q. is_lt (path_cmp part.path q)) (map (λ (x : RecordPart). x.path) more)) (rise (map (λ (x : RecordPart). x.path) more)) h in
    let rest = rise_filter kept more both.1 in
    elim (kept part) as (λ b. rise (map (λ (x : RecordPart). x.path) (cond b (part ∷ filter kept more) (filter kept more))) ≡ true) [
      | true ↦ and_from (list_all (λ q. is_lt (path_cmp part.path q)) (map (λ (x : RecordPart). x.path) (filter kept more))) (rise (map (λ (x : RecordPart). x.path) (filter kept more))) (all_filter kept (λ q. is_lt (path_cmp part.path q)) more both.0) rest
      | false ↦ rest
    ]

paths_rise : (content : Body → Content) (parts : List RecordPart) → AreParts parts → rise (paths_with content parts) ≡ true
paths_rise content parts are =
    rise_filter (λ part. is_some (content part.body)) (filter (λ part. is_live part.state) parts)
    (rise_filter (λ part. is_live part.state) parts (sym (sorted_paths parts) ∙ are.rise))

-- ---- one pass over the parts

drop_at : (parts : List RecordPart) (i : ℕ) (d : RecordPart) → i < length parts → drop i parts ≡ get_or parts i d ∷ drop (suc i) parts
drop_at [] i d l = absurd (omega arith)
drop_at (x ∷ parts) zero d l = refl
drop_at (x ∷ parts) (suc i) d l = drop_at parts i d (omega arith)

near_next : (last : Option Path) (p : Path) (more : List Path) → near_from last (p ∷ more) ≡ (not (under_last last p) && near_from (Some p) more)
near_next None p more = refl
near_next (Some q) p more = refl

module _ (content : Body → Content) (parts : List RecordPart) (i : ℕ) (part : RecordPart) (last : Option Path) (l : i < length parts) (is : part ≡ get_or parts i part) where
  at_it : paths_with content (drop i parts) ≡ paths_with content (part ∷ drop (i + 1) parts)
  at_it =
      let next : suc i ≡ i + 1 = omega arith in
      ap (paths_with content) (drop_at parts i part l ∙ ap (λ n. get_or parts i part ∷ drop n parts) next) ∙ ap (λ x. paths_with content (x ∷ drop (i + 1) parts)) (sym is)

  -- a part that isn't looked at
  pub near_miss : (is_live part.state && is_some (content part.body)) ≡ false → near_from last (paths_with content (drop i parts)) ≡ near_from last (paths_with content (drop (i + 1) parts))
  near_miss h =
      ap (near_from last) at_it
      ∙ elim (is_live part.state) as (λ b. (b && is_some (content part.body)) ≡ false → near_from last (map (λ (x : RecordPart). x.path) (filter (λ x. is_some (content x.body)) (cond b (part ∷ filter (λ x. is_live x.state) (drop (i + 1) parts)) (filter (λ x. is_live x.state) (drop (i + 1) parts))))) ≡ near_from last (paths_with content (drop (i + 1) parts))) [
        | true ↦ λ k. ap (λ b. near_from last (map (λ (x : RecordPart). x.path) (cond b (part ∷ filter (λ x. is_some (content x.body)) (filter (λ x. is_live x.state) (drop (i + 1) parts))) (filter (λ x. is_some (content x.body)) (filter (λ x. is_live x.state) (drop (i + 1) parts)))))) k
        | false ↦ λ k. refl
      ] h

  -- one that is
  pub near_hit : (is_live part.state && is_some (content part.body)) ≡ true → near_from last (paths_with content (drop i parts)) ≡ (not (under_last last part.path) && near_from (Some part.path) (paths_with content (drop (i + 1) parts)))
  near_hit h =
      let both = and_parts (is_live part.state) (is_some (content part.body)) h in
      ap (near_from last) at_it
      ∙ ap (λ b. near_from last (map (λ (x : RecordPart). x.path) (filter (λ x. is_some (content x.body)) (cond b (part ∷ filter (λ x. is_live x.state) (drop (i + 1) parts)) (filter (λ x. is_live x.state) (drop (i + 1) parts)))))) both.0
      ∙ ap (λ b. near_from last (map (λ (x : RecordPart). x.path) (cond b (part ∷ filter (λ x. is_some (content x.body)) (filter (λ x. is_live x.state) (drop (i + 1) parts))) (filter (λ x. is_some (content x.body)) (filter (λ x. is_live x.state) (drop (i + 1) parts)))))) both.1
      ∙ near_next last part.path (paths_with content (drop (i + 1) parts))

near_nothing : (last : Option Path) → near_from last [] ≡ true
near_nothing None = refl
near_nothing (Some p) = refl

-- no part is left
pub near_end : (content : Body → Content) (parts : List RecordPart) (i : ℕ) (last : Option Path) → length parts ≤ i → near_from last (paths_with content (drop i parts)) ≡ true
near_end content parts i last l = ap (λ ps. near_from last (paths_with content ps)) (nothing_left parts i l) ∙ near_nothing last
  where
    nothing_left : (xs : List RecordPart) (i : ℕ) → length xs ≤ i → drop i xs ≡ []
    nothing_left [] zero l = refl
    nothing_left [] (suc i) l = refl
    nothing_left (x ∷ xs) zero l = absurd (omega arith)
    nothing_left (x ∷ xs) (suc i) l = nothing_left xs i (omega arith)

pub near_paths : (content : Body → Content) (parts : List RecordPart) → AreParts parts → are_apart (paths_with content parts) ≡ neighbours_apart (paths_with content parts)
near_paths content parts are = rising_near (paths_with content parts) (paths_rise content parts are)
