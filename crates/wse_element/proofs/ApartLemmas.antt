-- Contents that can be files of one tree still can when some of them are lost.
use Rattle.std.proofs.Common.{◌≡◌, Bool, true, false, ◌&&◌, not, cond, List, [], ◌∷◌, map, refl, sym, ap, ◌∙◌}
use Rattle.std.specs.Prelude.{filter, is_some}
use Rattle.std.specs.List.{list_any, list_all}
use Rattle.std.specs.Ordering.{eq_by_cmp}
use Rattle.std.proofs.lemmas.Bool.{and_from, or_parts, or_from, not-true, not_from_false}
use Rattle.std.proofs.lemmas.List.Elements.{filter_agree}
use Rattle.wse_path.specs.Path.{Path, is_under}
use Rattle.wse_path.specs.Order.{path_cmp}
use Rattle.wse_path.proofs.EntryLemmas.{and_parts}
use Rattle.wse_element.specs.declared.state.PartState.{PartState}
use Rattle.wse_element.specs.declared.state.PartState.TheVariants.{Incompatible}
use Rattle.wse_element.specs.declared.body.Body.{Body}
use Rattle.wse_element.specs.Content.{Content, old_content, new_content}
use Rattle.wse_element.specs.Record.{RecordPart, Record}
use Rattle.wse_element.specs.Live.{is_live, is_live_part_at, live_parts}
use Rattle.wse_element.specs.Losses.{lost, part_lost_at, lost_at, part_invalid_at, invalid_at, future_lost_at}
use Rattle.wse_element.specs.Apart.{are_apart, old_paths, new_paths, is_apart}
use Rattle.wse_element.proofs.ListLemmas.{filter-map, filter-filter, list_all_weaker}

module _ {X Y : Type 0} (f : X → Y) (kept : X → Bool) where
  pub any_filter : (test : Y → Bool) (xs : List X) → list_any test (map f xs) ≡ false → list_any test (map f (filter kept xs)) ≡ false
  any_filter test [] h = refl
  any_filter test (x ∷ xs) h =
      let parts = or_parts (test (f x)) (list_any test (map f xs)) h in
      let rest = any_filter test xs parts.1 in
      elim (kept x) as (λ b. list_any test (map f (cond b (x ∷ filter kept xs) (filter kept xs))) ≡ false) [ true ↦ or_from (test (f x)) (list_any test (map f (filter kept xs))) parts.0 rest | false ↦ rest ]

  all_filter : (test : Y → Bool) (xs : List X) → list_all test (map f xs) ≡ true → list_all test (map f (filter kept xs)) ≡ true
  all_filter test [] h = refl
  all_filter test (x ∷ xs) h =
      let parts = and_parts (test (f x)) (list_all test (map f xs)) h in
      let rest = all_filter test xs parts.1 in
      elim (kept x) as (λ b. list_all test (map f (cond b (x ∷ filter kept xs) (filter kept xs))) ≡ true) [ true ↦ and_from (test (f x)) (list_all test (map f (filter kept xs))) parts.0 rest | false ↦ rest ]

module _ {X : Type 0} (f : X → Path) (kept : X → Bool) where
  -- fewer paths that are apart
  pub apart_filter : (xs : List X) → are_apart (map f xs) ≡ true → are_apart (map f (filter kept xs)) ≡ true
  apart_filter xs h =
      list_all_weaker (λ p. not (list_any (is_under p) (map f xs))) (λ p. not (list_any (is_under p) (map f (filter kept xs))))
      (λ p none. not_from_false (list_any (is_under p) (map f (filter kept xs))) (any_filter f kept (is_under p) xs (not-true (list_any (is_under p) (map f xs)) none)))
      (map f (filter kept xs)) (all_filter f kept (λ p. not (list_any (is_under p) (map f xs))) xs h)

-- the part isn't at the path
abbrev is_away : Path → RecordPart → Bool
is_away q part = not (eq_by_cmp path_cmp q part.path)

-- the live parts that are left are those at other paths
live_lost : (q : Path) (state : PartState) (parts : List RecordPart) → is_live state ≡ false → filter (λ part. is_live part.state) (map (part_lost_at q state) parts) ≡ filter (is_away q) (filter (λ part. is_live part.state) parts)
live_lost q state [] dead = refl
live_lost q state (part ∷ more) dead =
    let rest = live_lost q state more dead in
    let left = filter (λ (x : RecordPart). is_live x.state) (map (part_lost_at q state) more) in
    let there = filter (λ (x : RecordPart). is_live x.state) more in
    elim (eq_by_cmp path_cmp q part.path) as (λ e. eq_by_cmp path_cmp q part.path ≡ e → cond (is_live (cond (e && is_live part.state) (lost state part) part).state) (cond (e && is_live part.state) (lost state part) part ∷ left) left ≡ filter (is_away q) (cond (is_live part.state) (part ∷ there) there)) [
      | true ↦ λ e.
          elim (is_live part.state) as (λ l. is_live part.state ≡ l → cond (is_live (cond l (lost state part) part).state) (cond l (lost state part) part ∷ left) left ≡ filter (is_away q) (cond l (part ∷ there) there)) [
            | true ↦ λ _. ap (λ b. cond b (lost state part ∷ left) left) dead ∙ rest ∙ sym (ap (λ b. cond (not b) (part ∷ filter (is_away q) there) (filter (is_away q) there)) e)
            | false ↦ λ l. ap (λ b. cond b (part ∷ left) left) l ∙ rest
          ] refl
      | false ↦ λ e.
          elim (is_live part.state) as (λ l. cond l (part ∷ left) left ≡ filter (is_away q) (cond l (part ∷ there) there)) [
            | true ↦ ap (λ xs. part ∷ xs) rest ∙ sym (ap (λ b. cond (not b) (part ∷ filter (is_away q) there) (filter (is_away q) there)) e)
            | false ↦ rest
          ]
    ] refl

and_turned : (a b : Bool) → (a && b) ≡ (b && a)
and_turned true true = refl
and_turned true false = refl
and_turned false true = refl
and_turned false false = refl

-- of what is left by two filters either may come first
filters_turned : {X : Type 0} (p q : X → Bool) (xs : List X) → filter p (filter q xs) ≡ filter q (filter p xs)
filters_turned p q xs =
    filter-filter p q xs ∙ filter_agree (λ x. p x && q x) (λ x. q x && p x) (λ x. and_turned (p x) (q x)) xs ∙ sym (filter-filter q p xs)

-- the paths of these contents
abbrev paths_with : (Body → Content) → List RecordPart → List Path
paths_with content parts = map (λ part. part.path) (filter (λ part. is_some (content part.body)) parts)

apart_lost : (content : Body → Content) (q : Path) (state : PartState) (r : Record) → is_live state ≡ false → are_apart (paths_with content (live_parts r)) ≡ true → are_apart (paths_with content (live_parts (lost_at q state r))) ≡ true
apart_lost content q state r dead h =
    let has = λ (part : RecordPart). is_some (content part.body) in
    ap (λ parts. are_apart (map (λ (part : RecordPart). part.path) (filter has parts))) (live_lost q state r.parts dead)
    ∙ ap (λ parts. are_apart (map (λ (part : RecordPart). part.path) parts)) (filters_turned has (is_away q) (live_parts r))
    ∙ apart_filter (λ part. part.path) (is_away q) (filter has (live_parts r)) h

pub is_apart-lost_at : (q : Path) (state : PartState) (r : Record) → is_live state ≡ false → is_apart r ≡ true → is_apart (lost_at q state r) ≡ true
is_apart-lost_at q state r dead h =
    let parts = and_parts (are_apart (old_paths r)) (are_apart (new_paths r)) h in
    and_from (are_apart (old_paths (lost_at q state r))) (are_apart (new_paths (lost_at q state r))) (apart_lost old_content q state r dead parts.0) (apart_lost new_content q state r dead parts.1)

pub is_apart-future_lost_at : (q : Path) (r : Record) → is_apart r ≡ true → is_apart (future_lost_at q r) ≡ true
is_apart-future_lost_at q r h = elim r.done as (λ b. is_apart (cond b r (lost_at q Incompatible r)) ≡ true) [ true ↦ h | false ↦ is_apart-lost_at q Incompatible r refl h ]

-- ---- invalid parts

invalid_state : (q : Path) (part : RecordPart) → is_live (part_invalid_at q part).state ≡ is_live part.state
invalid_state q part = elim (is_live_part_at q part) as (λ b. is_live (cond b (record part { valid = false }) part).state ≡ is_live part.state) [ true ↦ refl | false ↦ refl ]

invalid_has : (content : Body → Content) (q : Path) (part : RecordPart) → is_some (content (part_invalid_at q part).body) ≡ is_some (content part.body)
invalid_has content q part = elim (is_live_part_at q part) as (λ b. is_some (content (cond b (record part { valid = false }) part).body) ≡ is_some (content part.body)) [ true ↦ refl | false ↦ refl ]

invalid_paths : (q : Path) (parts : List RecordPart) → map (λ part. part.path) (map (part_invalid_at q) parts) ≡ map (λ part. part.path) parts
invalid_paths q [] = refl
invalid_paths q (part ∷ more) =
    λ i. elim (is_live_part_at q part) as (λ b. (cond b (record part { valid = false }) part).path ≡ part.path) [ true ↦ refl | false ↦ refl ] i ∷ invalid_paths q more i

paths_invalid : (content : Body → Content) (q : Path) (r : Record) → paths_with content (live_parts (invalid_at q r)) ≡ paths_with content (live_parts r)
paths_invalid content q r =
    let has = λ (part : RecordPart). is_some (content part.body) in
    ap (λ parts. map (λ (part : RecordPart). part.path) (filter has parts)) (filter-map (part_invalid_at q) (λ part. is_live part.state) (λ part. is_live part.state) (invalid_state q) r.parts)
    ∙ ap (map (λ (part : RecordPart). part.path)) (filter-map (part_invalid_at q) has has (invalid_has content q) (live_parts r))
    ∙ invalid_paths q (filter has (live_parts r))

pub is_apart-invalid_at : (q : Path) (r : Record) → is_apart (invalid_at q r) ≡ is_apart r
is_apart-invalid_at q r = λ i. are_apart (paths_invalid old_content q r i) && are_apart (paths_invalid new_content q r i)
