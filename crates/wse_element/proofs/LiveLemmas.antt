-- Where a record is live behind what changes its parts.
use Rattle.std.proofs.Common.{◌≡◌, Bool, true, false, ◌&&◌, ◌||◌, cond, List, [], ◌∷◌, map, Option, Some, None, refl, sym, ap, subst, ◌∙◌}
use Rattle.std.specs.Prelude.{find, option_map, is_some}
use Rattle.std.specs.List.{list_any}
use Rattle.std.specs.Option.{option_map_or}
use Rattle.std.specs.Ordering.{eq_by_cmp, is_eq}
use Rattle.std.proofs.lemmas.Bool.{or_left, or_right, both_ways, false≢true}
use Rattle.std.proofs.lemmas.Cmp.{tied_itself}
use Rattle.wse_path.specs.Path.{Path}
use Rattle.wse_path.specs.Order.{path_cmp}
use Rattle.wse_path.proofs.EntryLemmas.{and_parts}
use Rattle.wse_path.proofs.PathOrder.{total, same_path}
use Rattle.wse_element.specs.declared.state.PartState.{PartState}
use Rattle.wse_element.specs.Record.{RecordPart, Record}
use Rattle.wse_element.specs.Live.{is_live, is_live_part_at, live_part, is_live_at, is_valid_at, has_live}
use Rattle.wse_element.specs.Losses.{lost, part_lost_at, lost_at, part_invalid_at, invalid_at}
use Rattle.wse_element.proofs.ListLemmas.{find-map, find_passes, find-any}

pub eq_itself : (p : Path) → eq_by_cmp path_cmp p p ≡ true
eq_itself p = ap is_eq (tied_itself total p)

any_live : (p : Path) (parts : List RecordPart) → list_any (is_live_part_at p) parts ≡ true → list_any (λ part. is_live part.state) parts ≡ true
any_live p [] k = k
any_live p (part ∷ more) k =
    elim (is_live_part_at p part) as (λ b. is_live_part_at p part ≡ b → (b || list_any (is_live_part_at p) more) ≡ true → (is_live part.state || list_any (λ x. is_live x.state) more) ≡ true) [
      | true ↦ λ e _. or_left (is_live part.state) (list_any (λ x. is_live x.state) more) (and_parts (eq_by_cmp path_cmp p part.path) (is_live part.state) e).1
      | false ↦ λ _ e. or_right (is_live part.state) (list_any (λ x. is_live x.state) more) (any_live p more e)
    ] refl k

-- a record that is live at a path is live
pub live_somewhere : (p : Path) (r : Record) → is_live_at p r ≡ true → has_live r ≡ true
live_somewhere p r h = any_live p r.parts (sym (find-any (is_live_part_at p) r.parts) ∙ h)

-- two paths at which one part is live are one
one_path : (p q : Path) (part : RecordPart) → is_live_part_at p part ≡ true → is_live_part_at q part ≡ true → p ≡ q
one_path p q part h k =
    same_path p part.path (and_parts (eq_by_cmp path_cmp p part.path) (is_live part.state) h).0
    ∙ sym (same_path q part.path (and_parts (eq_by_cmp path_cmp q part.path) (is_live part.state) k).0)

-- ---- invalid parts

invalid_live : (p q : Path) (part : RecordPart) → is_live_part_at p (part_invalid_at q part) ≡ is_live_part_at p part
invalid_live p q part =
    elim (is_live_part_at q part) as (λ b. is_live_part_at p (cond b (record part { valid = false }) part) ≡ is_live_part_at p part) [ true ↦ refl | false ↦ refl ]

pub live_part-invalid_at : (p q : Path) (r : Record) → live_part p (invalid_at q r) ≡ option_map (part_invalid_at q) (live_part p r)
live_part-invalid_at p q r = find-map (part_invalid_at q) (is_live_part_at p) (is_live_part_at p) (invalid_live p q) r.parts

is_some_map : {A B : Type 0} (f : A → B) (o : Option A) → is_some (option_map f o) ≡ is_some o
is_some_map f None = refl
is_some_map f (Some x) = refl

pub live-invalid_at : (p q : Path) (r : Record) → is_live_at p (invalid_at q r) ≡ is_live_at p r
live-invalid_at p q r = ap is_some (live_part-invalid_at p q r) ∙ is_some_map (part_invalid_at q) (live_part p r)

invalid_stays : (p q : Path) (parts : List RecordPart) (o : Option RecordPart) → eq_by_cmp path_cmp p q ≡ false → find (is_live_part_at p) parts ≡ o → option_map (part_invalid_at q) o ≡ o
invalid_stays p q parts None other h = refl
invalid_stays p q parts (Some part) other h =
    elim (is_live_part_at q part) as (λ b. is_live_part_at q part ≡ b → Some (cond b (record part { valid = false }) part) ≡ Some part) [
      | true ↦ λ k. absurd (both_ways (eq_by_cmp path_cmp p q) other (subst (λ x. eq_by_cmp path_cmp p x ≡ true) (one_path p q part (find_passes (is_live_part_at p) parts part h) k) (eq_itself p)))
      | false ↦ λ _. refl
    ] refl

-- at another path all is as it was
pub live_part-invalid_at_other : (p q : Path) (r : Record) → eq_by_cmp path_cmp p q ≡ false → live_part p (invalid_at q r) ≡ live_part p r
live_part-invalid_at_other p q r other = live_part-invalid_at p q r ∙ invalid_stays p q r.parts (live_part p r) other refl

invalid_found : (p : Path) (parts : List RecordPart) (o : Option RecordPart) → find (is_live_part_at p) parts ≡ o → option_map_or (λ x. x.valid) (option_map (part_invalid_at p) o) false ≡ false
invalid_found p parts None h = refl
invalid_found p parts (Some part) h = ap (λ b. (cond b (record part { valid = false }) part).valid) (find_passes (is_live_part_at p) parts part h)

-- at the path itself the record isn't valid any more
pub invalid_there : (p : Path) (r : Record) → is_valid_at p (invalid_at p r) ≡ false
invalid_there p r = ap (λ o. option_map_or (λ (x : RecordPart). x.valid) o false) (live_part-invalid_at p p r) ∙ invalid_found p r.parts (live_part p r) refl

invalid_any_live : (q : Path) (parts : List RecordPart) → list_any (λ part. is_live part.state) (map (part_invalid_at q) parts) ≡ list_any (λ part. is_live part.state) parts
invalid_any_live q [] = refl
invalid_any_live q (part ∷ more) =
    λ i. elim (is_live_part_at q part) as (λ b. is_live (cond b (record part { valid = false }) part).state ≡ is_live part.state) [ true ↦ refl | false ↦ refl ] i || invalid_any_live q more i

pub invalid_has_live : (q : Path) (r : Record) → has_live (invalid_at q r) ≡ has_live r
invalid_has_live q r = invalid_any_live q r.parts

-- ---- lost parts

-- no part is live any more at the path
lost_there : (p : Path) (state : PartState) (part : RecordPart) → is_live state ≡ false → is_live_part_at p (part_lost_at p state part) ≡ false
lost_there p state part dead =
    elim (is_live_part_at p part) as (λ b. is_live_part_at p part ≡ b → is_live_part_at p (cond b (lost state part) part) ≡ false) [
      | true ↦ λ _. ap (λ b. eq_by_cmp path_cmp p part.path && b) dead ∙ elim (eq_by_cmp path_cmp p part.path) as (λ b. (b && false) ≡ false) [ true ↦ refl | false ↦ refl ]
      | false ↦ λ h. h
    ] refl

find_none : {X : Type 0} (test : X → Bool) (xs : List X) → list_any test xs ≡ false → find test xs ≡ None
find_none test [] h = refl
find_none test (x ∷ xs) h =
    elim (test x) as (λ b. (b || list_any test xs) ≡ false → cond b (Some x) (find test xs) ≡ None) [
      | true ↦ λ e. absurd (false≢true (sym e))
      | false ↦ λ e. find_none test xs e
    ] h

none_there : (p : Path) (state : PartState) (parts : List RecordPart) → is_live state ≡ false → list_any (is_live_part_at p) (map (part_lost_at p state) parts) ≡ false
none_there p state [] dead = refl
none_there p state (part ∷ more) dead =
    ap (λ b. b || list_any (is_live_part_at p) (map (part_lost_at p state) more)) (lost_there p state part dead) ∙ none_there p state more dead

pub live_part-lost_at_same : (p : Path) (state : PartState) (r : Record) → is_live state ≡ false → live_part p (lost_at p state r) ≡ None
live_part-lost_at_same p state r dead = find_none (is_live_part_at p) (map (part_lost_at p state) r.parts) (none_there p state r.parts dead)

-- at another path all is as it was
lost_elsewhere : (p q : Path) (state : PartState) (part : RecordPart) → eq_by_cmp path_cmp p q ≡ false → is_live state ≡ false → is_live_part_at p (part_lost_at q state part) ≡ is_live_part_at p part
lost_elsewhere p q state part other dead =
    elim (is_live_part_at q part) as (λ b. is_live_part_at q part ≡ b → is_live_part_at p (cond b (lost state part) part) ≡ is_live_part_at p part) [
      | true ↦ λ h.
          let there = same_path q part.path (and_parts (eq_by_cmp path_cmp q part.path) (is_live part.state) h).0 in
          let away : eq_by_cmp path_cmp p part.path ≡ false = subst (λ x. eq_by_cmp path_cmp p x ≡ false) there other in
          ap (λ b. b && is_live state) away ∙ sym (ap (λ b. b && is_live part.state) away)
      | false ↦ λ _. refl
    ] refl

stays_there : (p q : Path) (state : PartState) (part : RecordPart) → eq_by_cmp path_cmp p q ≡ false → is_live_part_at p part ≡ true → part_lost_at q state part ≡ part
stays_there p q state part other at =
    elim (is_live_part_at q part) as (λ b. is_live_part_at q part ≡ b → cond b (lost state part) part ≡ part) [
      | true ↦ λ h. absurd (both_ways (eq_by_cmp path_cmp p q) other (subst (λ x. eq_by_cmp path_cmp p x ≡ true) (one_path p q part at h) (eq_itself p)))
      | false ↦ λ _. refl
    ] refl

stays : (p q : Path) (state : PartState) (parts : List RecordPart) (o : Option RecordPart) → eq_by_cmp path_cmp p q ≡ false → find (is_live_part_at p) parts ≡ o → option_map (part_lost_at q state) o ≡ o
stays p q state parts None other h = refl
stays p q state parts (Some part) other h = ap (λ x. Some x) (stays_there p q state part other (find_passes (is_live_part_at p) parts part h))

pub live_part-lost_at_other : (p q : Path) (state : PartState) (r : Record) → eq_by_cmp path_cmp p q ≡ false → is_live state ≡ false → live_part p (lost_at q state r) ≡ live_part p r
live_part-lost_at_other p q state r other dead =
    find-map (part_lost_at q state) (is_live_part_at p) (is_live_part_at p) (λ part. lost_elsewhere p q state part other dead) r.parts
    ∙ stays p q state r.parts (live_part p r) other refl
