-- The closest records of a path, and what they say of its content.
use Rattle.std.proofs.Common.{◌≡◌, ◌⊎◌, inl, inr, ⊎_elim, ℕ, eqb, Bool, true, false, cond, not, ◌&&◌, ◌||◌, List, [], ◌∷◌, ◌++◌, map, Option, Some, None, is_some, refl, sym, ap, subst, ◌∙◌}
use Rattle.std.specs.Prelude.{filter, find, option_map, option_and_then, slice_get}
use Rattle.std.specs.List.{list_any, list_all, last_or, AllZip}
use Rattle.std.specs.Option.{option_map_or}
use Rattle.std.specs.Ordering.{eq_by_cmp, is_lt}
use Rattle.std.specs.FinMap.{is_sorted}
use Rattle.std.specs.FinMap.{find as find_entry}
use Rattle.std.specs.FinMap.Entries.{below_all}
use Rattle.std.proofs.lemmas.Bool.{eqb-true, or_parts, or_from, not-true, false≢true, eq-eqb, both_ways}
use Rattle.std.proofs.lemmas.Option.{none-some, same_Some}
use Rattle.wse_path.specs.Path.{Path}
use Rattle.wse_path.specs.Order.{path_cmp}
use Rattle.wse_path.specs.Tree.{Entries, content}
use Rattle.wse_path.specs.Changes.{is_same}
use Rattle.wse_path.proofs.EntryLemmas.{and_parts}
use Rattle.wse_path.proofs.GatheredLemmas.{is_same_itself}
use Rattle.wse_element.specs.Content.{Content, old_content, new_content}
use Rattle.wse_element.specs.Record.{RecordPart, Record, by_path}
use Rattle.wse_element.specs.Live.{is_live, is_live_part_at, live_part, is_live_at, is_valid_at, old_at, new_at}
use Rattle.wse_element.specs.Losses.{invalid_at}
use Rattle.wse_element.specs.Stacks.{past, closest_past, future, closest_future, ids, has_id, record_of}
use Rattle.wse_element.specs.Linked.{are_different, meet_at, meets_first, neighbours_meet, is_left_by, is_found_by, IsTreeLinkedAt}
use Rattle.wse_element.proofs.LiveLemmas.{invalid_there}
use Rattle.wse_element.proofs.MoveLemmas.{none_behind}
use Rattle.wse_element.proofs.PushLemmas.{same_back}
use Rattle.wse_element.proofs.SetLemmas.{is_set}

-- ---- what a record says of a path, by its live part there

abbrev pub SameLive : Path → Record → Record → Type 0
SameLive p r s = live_part p s ≡ live_part p r

abbrev left_says : Content → Option RecordPart → Bool
left_says c o = cond (option_map_or (λ (x : RecordPart). x.valid) o false) (is_same c (option_and_then (λ (x : RecordPart). new_content x.body) o)) true

abbrev found_says : Content → Option RecordPart → Bool
found_says c o = cond (option_map_or (λ (x : RecordPart). x.valid) o false) (is_same c (option_and_then (λ (x : RecordPart). old_content x.body) o)) true

left_by_part : (p : Path) (c : Content) (o : Option Record) → option_map_or (is_left_by p c) o true ≡ option_map_or (left_says c) (option_map (live_part p) o) true
left_by_part p c None = refl
left_by_part p c (Some r) = refl

found_by_part : (p : Path) (c : Content) (o : Option Record) → option_map_or (is_found_by p c) o true ≡ option_map_or (found_says c) (option_map (live_part p) o) true
found_by_part p c None = refl
found_by_part p c (Some r) = refl

last_zip : (p : Path) (a b : Option Record) (xs ys : List Record) → option_map (live_part p) b ≡ option_map (live_part p) a → AllZip (SameLive p) xs ys → option_map (live_part p) (last_or b ys) ≡ option_map (live_part p) (last_or a xs)
last_zip p a b [] [] e z = e
last_zip p a b [] (y ∷ ys) e z = absurd z
last_zip p a b (x ∷ xs) [] e z = absurd z
last_zip p a b (x ∷ xs) (y ∷ ys) e z = last_zip p (Some x) (Some y) xs ys (ap (λ (o : Option RecordPart). Some o) z.0) z.1

first_zip : (p : Path) (xs ys : List Record) → AllZip (SameLive p) xs ys → option_map (live_part p) (slice_get ys 0) ≡ option_map (live_part p) (slice_get xs 0)
first_zip p [] [] z = refl
first_zip p [] (y ∷ ys) z = absurd z
first_zip p (x ∷ xs) [] z = absurd z
first_zip p (x ∷ xs) (y ∷ ys) z = ap (λ (o : Option RecordPart). Some o) z.0

-- Where the past and the future say the same of the path, and its content is the same, the tree is linked there as before.
pub tree_alike : (files new_files : Entries) (records new : List Record) (p : Path) → content new_files p ≡ content files p → AllZip (SameLive p) (past records p) (past new p) → AllZip (SameLive p) (future records p) (future new p) → IsTreeLinkedAt files records p → IsTreeLinkedAt new_files new p
tree_alike files new_files records new p same behind ahead linked = record {
  past = ap (λ c. option_map_or (is_left_by p c) (closest_past new p) true) same
      ∙ left_by_part p (content files p) (closest_past new p)
      ∙ ap (λ o. option_map_or (left_says (content files p)) o true) (last_zip p None None (past records p) (past new p) refl behind)
      ∙ sym (left_by_part p (content files p) (closest_past records p))
      ∙ linked.past;
  future = ap (λ c. option_map_or (is_found_by p c) (closest_future new p) true) same
      ∙ found_by_part p (content files p) (closest_future new p)
      ∙ ap (λ o. option_map_or (found_says (content files p)) o true) (first_zip p (future records p) (future new p) ahead)
      ∙ sym (found_by_part p (content files p) (closest_future records p))
      ∙ linked.future;
}

pub zip_same : (p : Path) (xs ys : List Record) → ys ≡ xs → AllZip (SameLive p) xs ys
zip_same p xs ys e = subst (λ zs. AllZip (SameLive p) xs zs) (sym e) (itself xs)
  where
    itself : (zs : List Record) → AllZip (SameLive p) zs zs
    itself [] = tt
    itself (z ∷ zs) = (refl, itself zs)

pub zip_map : (p : Path) (f : Record → Record) → ((r : Record) → live_part p (f r) ≡ live_part p r) → (xs ys : List Record) → ys ≡ map f xs → AllZip (SameLive p) xs ys
zip_map p f same xs ys e = subst (λ zs. AllZip (SameLive p) xs zs) (sym e) (mapped xs)
  where
    mapped : (zs : List Record) → AllZip (SameLive p) zs (map f zs)
    mapped [] = tt
    mapped (z ∷ zs) = (same z, mapped zs)

-- ---- nothing is there, or nothing valid

pub linked_to_none : (files : Entries) (new : List Record) (p : Path) → past new p ≡ [] → future new p ≡ [] → IsTreeLinkedAt files new p
linked_to_none files new p behind ahead = record {
  past = ap (λ (rs : List Record). option_map_or (is_left_by p (content files p)) (last_or None rs) true) behind;
  future = ap (λ (rs : List Record). option_map_or (is_found_by p (content files p)) (slice_get rs 0) true) ahead;
}

left_by_invalid : (p : Path) (c : Content) (r : Record) → is_valid_at p r ≡ false → is_left_by p c r ≡ true
left_by_invalid p c r h = ap (λ b. cond b (is_same c (new_at p r)) true) h

found_by_invalid : (p : Path) (c : Content) (r : Record) → is_valid_at p r ≡ false → is_found_by p c r ≡ true
found_by_invalid p c r h = ap (λ b. cond b (is_same c (old_at p r)) true) h

last_invalid : (p : Path) (c : Content) (o : Option Record) (test : Record → Bool) (rs : List Record) → list_any (is_valid_at p) rs ≡ false → option_map_or (is_left_by p c) o true ≡ true → option_map_or (is_left_by p c) (last_or o (filter test rs)) true ≡ true
last_invalid p c o test [] none h = h
last_invalid p c o test (r ∷ rs) none h =
    let parts = or_parts (is_valid_at p r) (list_any (is_valid_at p) rs) none in
    elim (test r) as (λ b. option_map_or (is_left_by p c) (last_or o (cond b (r ∷ filter test rs) (filter test rs))) true ≡ true) [
      | true ↦ last_invalid p c (Some r) test rs parts.1 (left_by_invalid p c r parts.0)
      | false ↦ last_invalid p c o test rs parts.1 h
    ]

first_invalid : (p : Path) (c : Content) (test : Record → Bool) (rs : List Record) → list_any (is_valid_at p) rs ≡ false → option_map_or (is_found_by p c) (slice_get (filter test rs) 0) true ≡ true
first_invalid p c test [] none = refl
first_invalid p c test (r ∷ rs) none =
    let parts = or_parts (is_valid_at p r) (list_any (is_valid_at p) rs) none in
    elim (test r) as (λ b. option_map_or (is_found_by p c) (slice_get (cond b (r ∷ filter test rs) (filter test rs)) 0) true ≡ true) [
      | true ↦ found_by_invalid p c r parts.0
      | false ↦ first_invalid p c test rs parts.1
    ]

-- Where no record is valid at the path, any content is linked there.
pub linked_where_invalid : (files : Entries) (records : List Record) (p : Path) → list_any (is_valid_at p) records ≡ false → IsTreeLinkedAt files records p
linked_where_invalid files records p none = record {
  past = last_invalid p (content files p) None (λ r. r.done && is_live_at p r) records none refl;
  future = first_invalid p (content files p) (λ r. not r.done && is_live_at p r) records none;
}

pub none_valid_there : (p : Path) (records : List Record) → list_any (is_valid_at p) (map (invalid_at p) records) ≡ false
none_valid_there p [] = refl
none_valid_there p (r ∷ records) = or_from (is_valid_at p (invalid_at p r)) (list_any (is_valid_at p) (map (invalid_at p) records)) (invalid_there p r) (none_valid_there p records)

-- ---- the contents of a record's parts

module _ (f : RecordPart → Content) where
  abbrev pub contents : List RecordPart → List (Path × Content)
  contents parts = map (λ part. (part.path, f part)) parts

  below_contents : (k : Path) (parts : List RecordPart) → below_all path_cmp k (contents parts) ≡ below_all path_cmp k (by_path parts)
  below_contents k [] = refl
  below_contents k (x ∷ parts) = λ i. is_lt (path_cmp k x.path) && below_contents k parts i

  pub sorted_contents : (parts : List RecordPart) → is_sorted path_cmp (contents parts) ≡ is_sorted path_cmp (by_path parts)
  sorted_contents [] = refl
  sorted_contents (x ∷ parts) = λ i. below_contents x.path parts i && sorted_contents parts i

  pub contents_found : (parts : List RecordPart) (p : Path) (part : RecordPart) → list_all (λ x. is_live x.state && x.valid) parts ≡ true → find (is_live_part_at p) parts ≡ Some part → find_entry path_cmp p (contents parts) ≡ Some (f part)
  contents_found [] p part all h = absurd (none-some part h)
  contents_found (x ∷ parts) p part all h =
      let both = and_parts (is_live x.state && x.valid) (list_all (λ y. is_live y.state && y.valid) parts) all in
      let live = (and_parts (is_live x.state) x.valid both.0).0 in
      elim (eq_by_cmp path_cmp p x.path) as (λ b. cond (b && is_live x.state) (Some x) (find (is_live_part_at p) parts) ≡ Some part → cond b (Some (f x)) (find_entry path_cmp p (contents parts)) ≡ Some (f part)) [
        | true ↦ λ k. ap (option_map f) (sym (ap (λ l. cond (true && l) (Some x) (find (is_live_part_at p) parts)) live) ∙ k)
        | false ↦ λ k. contents_found parts p part both.1 k
      ] h

  pub contents_unset : (parts : List RecordPart) (p : Path) → list_all (λ x. is_live x.state && x.valid) parts ≡ true → is_some (find (is_live_part_at p) parts) ≡ false → is_set (contents parts) p ≡ false
  contents_unset [] p all h = refl
  contents_unset (x ∷ parts) p all h =
      let both = and_parts (is_live x.state && x.valid) (list_all (λ y. is_live y.state && y.valid) parts) all in
      let live = (and_parts (is_live x.state) x.valid both.0).0 in
      elim (eq_by_cmp path_cmp p x.path) as (λ b. is_some (cond (b && is_live x.state) (Some x) (find (is_live_part_at p) parts)) ≡ false → (b || is_set (contents parts) p) ≡ false) [
        | true ↦ λ k. absurd (false≢true (sym k ∙ ap (λ l. is_some (cond (true && l) (Some x) (find (is_live_part_at p) parts))) live))
        | false ↦ λ k. contents_unset parts p both.1 k
      ] h

-- ---- the closest record with an id is the record with the id

abbrev pub In : Record → List Record → Type 0
In r [] = ⊥
In r (x ∷ xs) = (r ≡ x) ⊎ In r xs

pub in_filter : (r : Record) (test : Record → Bool) (xs : List Record) → In r (filter test xs) → In r xs
in_filter r test [] h = h
in_filter r test (x ∷ xs) h =
    elim (test x) as (λ b. In r (cond b (x ∷ filter test xs) (filter test xs)) → (r ≡ x) ⊎ In r xs) [
      | true ↦ λ k. ⊎_elim (λ (e : r ≡ x). inl e) (λ (later : In r (filter test xs)). inr (in_filter r test xs later)) k
      | false ↦ λ k. inr (in_filter r test xs k)
    ] h

pub in_last : (r : Record) (front : List Record) → In r (front ++ r ∷ [])
in_last r [] = inl refl
in_last r (x ∷ front) = inr (in_last r front)

in_any : (r : Record) (xs : List Record) (id : ℕ) → In r xs → r.id ≡ id → list_any (has_id id) xs ≡ true
in_any r [] id h e = absurd h
in_any r (x ∷ xs) id h e =
    ⊎_elim
    (λ (here : r ≡ x). ap (λ b. b || list_any (has_id id) xs) (eq-eqb x.id id (ap (λ (y : Record). y.id) (sym here) ∙ e)))
    (λ (later : In r xs). or_later (has_id id x) (list_any (has_id id) xs) (in_any r xs id later e))
    h
  where
    or_later : (a b : Bool) → b ≡ true → (a || b) ≡ true
    or_later true b k = refl
    or_later false b k = k

-- Where all ids are different, the record that is found by an id is the one that has it.
pub found_by_id : (xs : List Record) (r c : Record) → are_different (ids xs) ≡ true → record_of xs c.id ≡ Some r → In c xs → c ≡ r
found_by_id [] r c different found there = absurd there
found_by_id (x ∷ xs) r c different found there =
    let parts = and_parts (not (list_any (λ m. eqb m x.id) (ids xs))) (are_different (ids xs)) different in
    elim (has_id c.id x) as (λ b. has_id c.id x ≡ b → cond b (Some x) (find (has_id c.id) xs) ≡ Some r → c ≡ r) [
      | true ↦ λ e k.
          ⊎_elim
          (λ (here : c ≡ x). here ∙ same_Some x r k)
          (λ (later : In c xs). absurd (both_ways (list_any (has_id x.id) xs) (none_behind x xs (not-true (list_any (λ m. eqb m x.id) (ids xs)) parts.0)) (in_any c xs x.id later (sym (eqb-true x.id c.id e)))))
          there
      | false ↦ λ e k.
          ⊎_elim
          (λ (here : c ≡ x). absurd (both_ways (has_id c.id x) e (eq-eqb x.id c.id (ap (λ (y : Record). y.id) (sym here)))))
          (λ (later : In c xs). found_by_id xs r c parts.1 k later)
          there
    ] refl found

-- ---- neighbours

-- What a record left is what a valid one behind it found.
left_to : (p : Path) (r c : Record) → is_valid_at p r ≡ true → meet_at p c r ≡ true → is_left_by p (old_at p r) c ≡ true
left_to p r c valid h =
    elim (is_valid_at p c) as (λ b. cond (b && is_valid_at p r) (is_same (new_at p c) (old_at p r)) true ≡ true → cond b (is_same (old_at p r) (new_at p c)) true ≡ true) [
      | true ↦ λ k. same_back (new_at p c) (old_at p r) (sym (ap (λ v. cond (true && v) (is_same (new_at p c) (old_at p r)) true) valid) ∙ k)
      | false ↦ λ k. refl
    ] h

found_of : (p : Path) (r c : Record) → is_valid_at p r ≡ true → meet_at p r c ≡ true → is_found_by p (new_at p r) c ≡ true
found_of p r c valid h =
    elim (is_valid_at p c) as (λ b. cond (is_valid_at p r && b) (is_same (new_at p r) (old_at p c)) true ≡ true → cond b (is_same (new_at p r) (old_at p c)) true ≡ true) [
      | true ↦ λ k. sym (ap (λ v. cond (v && true) (is_same (new_at p r) (old_at p c)) true) valid) ∙ k
      | false ↦ λ k. refl
    ] h

met_last : (p : Path) (x : Record) (front : List Record) (r : Record) (back : List Record) → is_valid_at p r ≡ true → neighbours_meet p (x ∷ front ++ r ∷ back) ≡ true → option_map_or (is_left_by p (old_at p r)) (last_or (Some x) front) true ≡ true
met_last p x [] r back valid h = left_to p r x valid (and_parts (meet_at p x r) (neighbours_meet p (r ∷ back)) h).0
met_last p x (y ∷ front) r back valid h = met_last p y front r back valid (and_parts (meet_at p x y) (neighbours_meet p (y ∷ front ++ r ∷ back)) h).1

pub met_behind : (p : Path) (front : List Record) (r : Record) (back : List Record) → is_valid_at p r ≡ true → neighbours_meet p (front ++ r ∷ back) ≡ true → option_map_or (is_left_by p (old_at p r)) (last_or None front) true ≡ true
met_behind p [] r back valid h = refl
met_behind p (x ∷ front) r back valid h = met_last p x front r back valid h

met_first : (p : Path) (r : Record) (back : List Record) → is_valid_at p r ≡ true → neighbours_meet p (r ∷ back) ≡ true → option_map_or (is_found_by p (new_at p r)) (slice_get back 0) true ≡ true
met_first p r [] valid h = refl
met_first p r (x ∷ back) valid h = found_of p r x valid (and_parts (meet_at p r x) (neighbours_meet p (x ∷ back)) h).0

pub met_ahead : (p : Path) (front : List Record) (r : Record) (back : List Record) → is_valid_at p r ≡ true → neighbours_meet p (front ++ r ∷ back) ≡ true → option_map_or (is_found_by p (new_at p r)) (slice_get back 0) true ≡ true
met_ahead p [] r back valid h = met_first p r back valid h
met_ahead p (x ∷ front) r back valid h = met_ahead p front r back valid (and_parts (meets_first p x (front ++ r ∷ back)) (neighbours_meet p (front ++ r ∷ back)) h).1

pub left_by_itself : (p : Path) (r : Record) → is_left_by p (new_at p r) r ≡ true
left_by_itself p r = elim (is_valid_at p r) as (λ b. cond b (is_same (new_at p r) (new_at p r)) true ≡ true) [ true ↦ is_same_itself (new_at p r) | false ↦ refl ]

pub found_by_itself : (p : Path) (r : Record) → is_found_by p (old_at p r) r ≡ true
found_by_itself p r = elim (is_valid_at p r) as (λ b. cond b (is_same (old_at p r) (old_at p r)) true ≡ true) [ true ↦ is_same_itself (old_at p r) | false ↦ refl ]
