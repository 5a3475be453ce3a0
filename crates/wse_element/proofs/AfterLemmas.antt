-- A list of records that fit one another fits after an effect that may come.
use Rattle.std.proofs.Common.{◌≡◌, ℕ, ◌+◌, ◌<◌, Bool, true, false, ◌&&◌, ◌||◌, not, cond, eqb, ltb, List, [], ◌∷◌, ◌++◌, map, Option, Some, None, refl, sym, ap, subst, ◌∙◌, arith}
use Rattle.std.specs.Prelude.{filter, find, slice_get}
use Rattle.std.specs.List.{list_any, list_all, last_or}
use Rattle.std.specs.Option.{option_map_or}
use Rattle.std.proofs.lemmas.Bool.{and_from, or_parts, or_from, not-true, not_from_false, false≢true, ltb-true, lt-ltb, eqb-true, ne_eqb}
use Rattle.std.proofs.lemmas.Option.{none-some, same_Some}
use Rattle.wse_path.specs.Path.{Path}
use Rattle.wse_path.proofs.EntryLemmas.{and_parts}
use Rattle.wse_element.specs.declared.state.PartState.TheVariants.{Closed, Incompatible}
use Rattle.wse_element.specs.Record.{RecordPart, Record, AreParts}
use Rattle.wse_element.specs.Live.{is_live, is_live_at, has_live}
use Rattle.wse_element.specs.Stacks.{live_at, past, future, closest_past, closest_future, ids, has_id, record_of}
use Rattle.wse_element.specs.Losses.{lost_at, flushed, future_lost_at, dropped, invalid_at, invalidated}
use Rattle.wse_element.specs.Effects.{marked_one, marked}
use Rattle.wse_element.specs.Apart.{is_apart}
use Rattle.wse_element.specs.Linked.{are_different, is_numbered, IsLinkedAt, IsLinked}
use Rattle.wse_element.specs.Applicable.{is_whole, has_future, follows_past, may_push, is_closest, may_go_back, may_go_forward}
use Rattle.wse_element.specs.State.{StacksState}
use Rattle.wse_element.proofs.ListLemmas.{filter_passes, list_all_weaker, list_all-append, list_all-filter, find_passes}
use Rattle.wse_element.proofs.LiveLemmas.{invalid_has_live}
use Rattle.wse_element.proofs.PastLemmas.{ids-map}
use Rattle.wse_element.proofs.MoveLemmas.{none_behind, eqb_back}
use Rattle.wse_element.proofs.LinkedLemmas.{linked_flushed, linked_dropped, linked_invalidated, linked_back, linked_forward, linked_unmarked}
use Rattle.wse_element.proofs.PushLemmas.{Follows, found_in, found_passes, linked_pushed}
use Rattle.wse_element.proofs.ApartLemmas.{any_filter, is_apart-lost_at, is_apart-future_lost_at, is_apart-invalid_at}

-- ---- ids and numbers

pub different_filter : (kept : Record → Bool) (records : List Record) → are_different (ids records) ≡ true → are_different (ids (filter kept records)) ≡ true
different_filter kept [] h = refl
different_filter kept (r ∷ records) h =
    let parts = and_parts (not (list_any (λ m. eqb m r.id) (ids records))) (are_different (ids records)) h in
    let rest = different_filter kept records parts.1 in
    elim (kept r) as (λ b. are_different (ids (cond b (r ∷ filter kept records) (filter kept records))) ≡ true) [
      | true ↦ and_from (not (list_any (λ m. eqb m r.id) (ids (filter kept records)))) (are_different (ids (filter kept records)))
          (not_from_false (list_any (λ m. eqb m r.id) (ids (filter kept records))) (any_filter (λ (x : Record). x.id) kept (λ m. eqb m r.id) records (not-true (list_any (λ m. eqb m r.id) (ids records)) parts.0))) rest
      | false ↦ rest
    ]

any_id_push : (id : ℕ) (records : List Record) (r : Record) → list_any (λ m. eqb m id) (ids records) ≡ false → eqb r.id id ≡ false → list_any (λ m. eqb m id) (ids (records ++ r ∷ [])) ≡ false
any_id_push id [] r h k = or_from (eqb r.id id) false k refl
any_id_push id (x ∷ records) r h k =
    let parts = or_parts (eqb x.id id) (list_any (λ m. eqb m id) (ids records)) h in
    or_from (eqb x.id id) (list_any (λ m. eqb m id) (ids (records ++ r ∷ []))) parts.0 (any_id_push id records r parts.1 k)

different_push : (records : List Record) (r : Record) → are_different (ids records) ≡ true → list_any (λ m. eqb m r.id) (ids records) ≡ false → are_different (ids (records ++ r ∷ [])) ≡ true
different_push [] r h none = refl
different_push (x ∷ records) r h none =
    let parts = and_parts (not (list_any (λ m. eqb m x.id) (ids records))) (are_different (ids records)) h in
    let others = or_parts (eqb x.id r.id) (list_any (λ m. eqb m r.id) (ids records)) none in
    and_from (not (list_any (λ m. eqb m x.id) (ids (records ++ r ∷ [])))) (are_different (ids (records ++ r ∷ [])))
    (not_from_false (list_any (λ m. eqb m x.id) (ids (records ++ r ∷ []))) (any_id_push x.id records r (not-true (list_any (λ m. eqb m x.id) (ids records)) parts.0) (eqb_back x.id r.id others.0)))
    (different_push records r parts.1 others.1)

-- what is_numbered says
pub record HasNumbers (next_id : ℕ) (r : Record) : Type 0 where
  pub some : 0 < r.id
  pub taken : r.id < next_id
  pub origin : 0 < r.origin
  pub known : r.origin < next_id

pub numbers_of : (next_id : ℕ) (r : Record) → is_numbered next_id r ≡ true → HasNumbers next_id r
numbers_of next_id r h =
    let last = and_parts (ltb 0 r.id && ltb r.id next_id && ltb 0 r.origin) (ltb r.origin next_id) h in
    let third = and_parts (ltb 0 r.id && ltb r.id next_id) (ltb 0 r.origin) last.0 in
    let first = and_parts (ltb 0 r.id) (ltb r.id next_id) third.0 in
    record { some = ltb-true 0 r.id first.0; taken = ltb-true r.id next_id first.1; origin = ltb-true 0 r.origin third.1; known = ltb-true r.origin next_id last.1 }

pub numbered_from : (next_id : ℕ) (r : Record) → HasNumbers next_id r → is_numbered next_id r ≡ true
numbered_from next_id r has = λ i. lt-ltb 0 r.id has.some i && lt-ltb r.id next_id has.taken i && lt-ltb 0 r.origin has.origin i && lt-ltb r.origin next_id has.known i

pub numbered_more : (next_id more : ℕ) (r : Record) → is_numbered next_id r ≡ true → is_numbered (next_id + more) r ≡ true
numbered_more next_id more r h =
    let has = numbers_of next_id r h in
    numbered_from (next_id + more) r (record { some = has.some; taken = omega (arith, has.taken); origin = has.origin; known = omega (arith, has.known) })

-- the next id isn't taken
free_id : (next_id : ℕ) (records : List Record) → list_all (is_numbered next_id) records ≡ true → list_any (λ m. eqb m next_id) (ids records) ≡ false
free_id next_id [] h = refl
free_id next_id (r ∷ records) h =
    let parts = and_parts (is_numbered next_id r) (list_all (is_numbered next_id) records) h in
    let below = (numbers_of next_id r parts.0).taken in
    or_from (eqb r.id next_id) (list_any (λ m. eqb m next_id) (ids records)) (ne_eqb r.id next_id (λ e. omega (arith, e, below))) (free_id next_id records parts.1)

all_map : (test : Record → Bool) (f : Record → Record) → ((r : Record) → test r ≡ true → test (f r) ≡ true) → (records : List Record) → list_all test records ≡ true → list_all test (map f records) ≡ true
all_map test f so [] h = refl
all_map test f so (r ∷ records) h =
    let parts = and_parts (test r) (list_all test records) h in
    and_from (test (f r)) (list_all test (map f records)) (so r parts.0) (all_map test f so records parts.1)

-- ---- losses

pub IsLinked-flushed : (next_id : ℕ) (records : List Record) (q : Path) → IsLinked next_id records → IsLinked next_id (flushed records q)
IsLinked-flushed next_id records q linked =
    let all = map (lost_at q Closed) records in
    record {
      different = different_filter has_live all (ap are_different (ids-map (lost_at q Closed) (λ r. refl) records) ∙ linked.different);
      numbered = list_all-filter (is_numbered next_id) has_live all (all_map (is_numbered next_id) (lost_at q Closed) (λ r h. h) records linked.numbered);
      live = filter_passes has_live all;
      apart = list_all-filter is_apart has_live all (all_map is_apart (lost_at q Closed) (λ r h. is_apart-lost_at q Closed r refl h) records linked.apart);
      each = λ p. linked_flushed records q p (linked.each p);
    }

dropped_id : (q : Path) (r : Record) → (future_lost_at q r).id ≡ r.id
dropped_id q r = elim r.done as (λ b. (cond b r (lost_at q Incompatible r)).id ≡ r.id) [ true ↦ refl | false ↦ refl ]

dropped_numbered : (next_id : ℕ) (q : Path) (r : Record) → is_numbered next_id r ≡ true → is_numbered next_id (future_lost_at q r) ≡ true
dropped_numbered next_id q r h = elim r.done as (λ b. is_numbered next_id (cond b r (lost_at q Incompatible r)) ≡ true) [ true ↦ h | false ↦ h ]

pub IsLinked-dropped : (next_id : ℕ) (records : List Record) (q : Path) → IsLinked next_id records → IsLinked next_id (dropped records q)
IsLinked-dropped next_id records q linked =
    let all = map (future_lost_at q) records in
    record {
      different = different_filter has_live all (ap are_different (ids-map (future_lost_at q) (dropped_id q) records) ∙ linked.different);
      numbered = list_all-filter (is_numbered next_id) has_live all (all_map (is_numbered next_id) (future_lost_at q) (dropped_numbered next_id q) records linked.numbered);
      live = filter_passes has_live all;
      apart = list_all-filter is_apart has_live all (all_map is_apart (future_lost_at q) (is_apart-future_lost_at q) records linked.apart);
      each = λ p. linked_dropped records q p (linked.each q) (linked.each p);
    }

-- ---- an invalidation

pub IsLinked-invalidated : (next_id : ℕ) (records : List Record) (q : Path) → IsLinked next_id records → IsLinked next_id (invalidated records q)
IsLinked-invalidated next_id records q linked = record {
  different = ap are_different (ids-map (invalid_at q) (λ r. refl) records) ∙ linked.different;
  numbered = all_map (is_numbered next_id) (invalid_at q) (λ r h. h) records linked.numbered;
  live = all_map has_live (invalid_at q) (λ r h. invalid_has_live q r ∙ h) records linked.live;
  apart = all_map is_apart (invalid_at q) (λ r h. is_apart-invalid_at q r ∙ h) records linked.apart;
  each = λ p. linked_invalidated records q p (linked.each q) (linked.each p);
}

-- ---- a push

some_live : (parts : List RecordPart) → (parts ≡ [] → ⊥) → list_all (λ part. is_live part.state && part.valid) parts ≡ true → list_any (λ part. is_live part.state) parts ≡ true
some_live [] some h = absurd (some refl)
some_live (part ∷ more) some h =
    let first = (and_parts (is_live part.state && part.valid) (list_all (λ x. is_live x.state && x.valid) more) h).0 in
    ap (λ b. b || list_any (λ (x : RecordPart). is_live x.state) more) (and_parts (is_live part.state) part.valid first).0

-- a record whose parts are all live has one
whole_is_live : (r : Record) → AreParts r.parts → is_whole r ≡ true → has_live r ≡ true
whole_is_live r are h = some_live r.parts are.some h

pub IsLinked-pushed : (h : StacksState) (r : Record) → AreParts r.parts → 0 < h.next_id → may_push h r ≡ true → IsLinked h.next_id h.records → IsLinked (h.next_id + 1) (h.records ++ r ∷ [])
IsLinked-pushed h r are positive may linked =
    let seventh = and_parts (eqb r.id h.next_id && eqb r.origin r.id && r.done && is_whole r && list_all (λ part. not (has_future h.records part.path)) r.parts && list_all (follows_past h.records) r.parts) (is_apart r) may in
    let sixth = and_parts (eqb r.id h.next_id && eqb r.origin r.id && r.done && is_whole r && list_all (λ part. not (has_future h.records part.path)) r.parts) (list_all (follows_past h.records) r.parts) seventh.0 in
    let fifth = and_parts (eqb r.id h.next_id && eqb r.origin r.id && r.done && is_whole r) (list_all (λ part. not (has_future h.records part.path)) r.parts) sixth.0 in
    let fourth = and_parts (eqb r.id h.next_id && eqb r.origin r.id && r.done) (is_whole r) fifth.0 in
    let third = and_parts (eqb r.id h.next_id && eqb r.origin r.id) r.done fourth.0 in
    let second = and_parts (eqb r.id h.next_id) (eqb r.origin r.id) third.0 in
    let id : r.id ≡ h.next_id = eqb-true r.id h.next_id second.0 in
    let origin : r.origin ≡ r.id = eqb-true r.origin r.id second.1 in
    let follows : Follows h.records r = record { done = third.1; whole = fourth.1; ahead = fifth.1; behind = sixth.1 } in
    let numbers : is_numbered (h.next_id + 1) r ≡ true = numbered_from (h.next_id + 1) r (record { some = omega arith; taken = omega arith; origin = omega arith; known = omega arith }) in
    record {
      different = different_push h.records r linked.different (ap (λ n. list_any (λ m. eqb m n) (ids h.records)) id ∙ free_id h.next_id h.records linked.numbered);
      numbered = list_all-append (is_numbered (h.next_id + 1)) h.records (r ∷ []) (list_all_weaker (is_numbered h.next_id) (is_numbered (h.next_id + 1)) (numbered_more h.next_id 1) h.records linked.numbered) (ap (λ b. b && true) numbers);
      live = list_all-append has_live h.records (r ∷ []) linked.live (ap (λ b. b && true) (whole_is_live r are fourth.1));
      apart = list_all-append is_apart h.records (r ∷ []) linked.apart (ap (λ b. b && true) seventh.1);
      each = λ p. linked_pushed h.records r p follows (linked.each p);
    }

-- ---- moves

last_parts : (x : Record) (more : List Record) (c : Record) → last_or (Some x) more ≡ Some c → record { front : List Record; is : x ∷ more ≡ front ++ c ∷ [] }
last_parts x [] c h = record { front = []; is = ap (λ r. r ∷ []) (same_Some x c h) }
last_parts x (y ∷ more) c h =
    let rest = last_parts y more c h in
    record { front = x ∷ rest.front; is = ap (λ rs. x ∷ rs) rest.is }

-- the records that end with the last
pub ends_with : (records : List Record) (c : Record) → last_or None records ≡ Some c → record { front : List Record; is : records ≡ front ++ c ∷ [] }
ends_with [] c h = absurd (none-some c h)
ends_with (x ∷ more) c h = last_parts x more c h

pub begins_with : (records : List Record) (c : Record) → slice_get records 0 ≡ Some c → record { back : List Record; is : records ≡ c ∷ back }
begins_with [] c h = absurd (none-some c h)
begins_with (x ∷ more) c h = record { back = more; is = ap (λ r. r ∷ more) (same_Some x c h) }

any_kept : (test kept : Record → Bool) (records : List Record) → list_any test records ≡ false → list_any test (filter kept records) ≡ false
any_kept test kept [] h = refl
any_kept test kept (r ∷ records) h =
    let parts = or_parts (test r) (list_any test records) h in
    let rest = any_kept test kept records parts.1 in
    elim (kept r) as (λ b. list_any test (cond b (r ∷ filter kept records) (filter kept records)) ≡ false) [ true ↦ or_from (test r) (list_any test (filter kept records)) parts.0 rest | false ↦ rest ]

-- where the record with the id isn't live, none with the id is
pub none_else : (records : List Record) (id : ℕ) (r : Record) (p : Path) → record_of records id ≡ Some r → are_different (ids records) ≡ true → is_live_at p r ≡ false → list_any (has_id id) (live_at records p) ≡ false
none_else [] id r p h different away = refl
none_else (x ∷ records) id r p h different away =
    let parts = and_parts (not (list_any (λ m. eqb m x.id) (ids records))) (are_different (ids records)) different in
    elim (has_id id x) as (λ b. has_id id x ≡ b → cond b (Some x) (find (has_id id) records) ≡ Some r → list_any (has_id id) (cond (is_live_at p x) (x ∷ live_at records p) (live_at records p)) ≡ false) [
      | true ↦ λ e k.
          let others = subst (λ n. list_any (has_id n) records ≡ false) (eqb-true x.id id e) (none_behind x records (not-true (list_any (λ m. eqb m x.id) (ids records)) parts.0)) in
          ap (λ b. list_any (has_id id) (cond b (x ∷ live_at records p) (live_at records p))) (subst (λ y. is_live_at p y ≡ false) (sym (same_Some x r k)) away)
          ∙ any_kept (has_id id) (is_live_at p) records others
      | false ↦ λ e k.
          let rest = none_else records id r p k parts.1 away in
          elim (is_live_at p x) as (λ b. list_any (has_id id) (cond b (x ∷ live_at records p) (live_at records p)) ≡ false) [ true ↦ or_from (has_id id x) (list_any (has_id id) (live_at records p)) e rest | false ↦ rest ]
    ] refl h

-- the closest record, which has the id
pub record Closest (o : Option Record) (id : ℕ) : Type 0 where
  pub closest : Record
  pub is : o ≡ Some closest
  pub same : closest.id ≡ id

pub closest_there : (o : Option Record) (id : ℕ) → is_closest id o ≡ true → Closest o id
closest_there None id h = absurd (false≢true h)
closest_there (Some c) id h = record { closest = c; is = refl; same = eqb-true c.id id h }

back_at : (records : List Record) (r : Record) (p : Path) → list_all (λ part. is_closest r.id (closest_past records part.path)) r.parts ≡ true → are_different (ids records) ≡ true → is_live_at p r ≡ true → IsLinkedAt records p → IsLinkedAt (marked records r.id false) p
back_at records r p all different live linked =
    let found = found_in p r live in
    let closest = closest_there (closest_past records p) r.id (subst (λ x. is_closest r.id (closest_past records x) ≡ true) (sym found.at) (found_passes p r (λ part. is_closest r.id (closest_past records part.path)) all found)) in
    let ends = ends_with (past records p) closest.closest closest.is in
    subst (λ n. IsLinkedAt (marked records n false) p) closest.same (linked_back records p ends.front closest.closest (different_filter (is_live_at p) records different) ends.is linked)

forward_at : (records : List Record) (r : Record) (p : Path) → list_all (λ part. is_closest r.id (closest_future records part.path)) r.parts ≡ true → are_different (ids records) ≡ true → is_live_at p r ≡ true → IsLinkedAt records p → IsLinkedAt (marked records r.id true) p
forward_at records r p all different live linked =
    let found = found_in p r live in
    let closest = closest_there (closest_future records p) r.id (subst (λ x. is_closest r.id (closest_future records x) ≡ true) (sym found.at) (found_passes p r (λ part. is_closest r.id (closest_future records part.path)) all found)) in
    let begins = begins_with (future records p) closest.closest closest.is in
    subst (λ n. IsLinkedAt (marked records n true) p) closest.same (linked_forward records p closest.closest begins.back (different_filter (is_live_at p) records different) begins.is linked)

-- what a mark leaves of a record
marked_id : (id : ℕ) (done : Bool) (r : Record) → (marked_one id done r).id ≡ r.id
marked_id id done r = elim (has_id id r) as (λ b. (cond b (record r { done = done }) r).id ≡ r.id) [ true ↦ refl | false ↦ refl ]

marked_test : (test : Record → Bool) → ((r : Record) (done : Bool) → test (record r { done = done }) ≡ test r) → (id : ℕ) (done : Bool) (r : Record) → test r ≡ true → test (marked_one id done r) ≡ true
marked_test test same id done r h = elim (has_id id r) as (λ b. test (cond b (record r { done = done }) r) ≡ true) [ true ↦ same r done ∙ h | false ↦ h ]

-- a mark on the record with the id, where all fit at each path
IsLinked-marked : (next_id : ℕ) (records : List Record) (id : ℕ) (done : Bool) → ((p : Path) → IsLinkedAt (marked records id done) p) → IsLinked next_id records → IsLinked next_id (marked records id done)
IsLinked-marked next_id records id done each linked = record {
  different = ap are_different (ids-map (marked_one id done) (marked_id id done) records) ∙ linked.different;
  numbered = all_map (is_numbered next_id) (marked_one id done) (marked_test (is_numbered next_id) (λ r d. refl) id done) records linked.numbered;
  live = all_map has_live (marked_one id done) (marked_test has_live (λ r d. refl) id done) records linked.live;
  apart = all_map is_apart (marked_one id done) (marked_test is_apart (λ r d. refl) id done) records linked.apart;
  each = each;
}

at_each : (records : List Record) (id : ℕ) (done : Bool) (r : Record) → record_of records id ≡ Some r → are_different (ids records) ≡ true → ((p : Path) → IsLinkedAt records p) → ((p : Path) → is_live_at p r ≡ true → IsLinkedAt (marked records id done) p) → (p : Path) → IsLinkedAt (marked records id done) p
at_each records id done r is different linked there p =
    elim (is_live_at p r) as (λ b. is_live_at p r ≡ b → IsLinkedAt (marked records id done) p) [
      | true ↦ λ live. there p live
      | false ↦ λ away. linked_unmarked records id done p (none_else records id r p is different away) (linked p)
    ] refl

back_with : (next_id : ℕ) (records : List Record) (id : ℕ) (o : Option Record) → record_of records id ≡ o → option_map_or (may_go_back records) o false ≡ true → IsLinked next_id records → IsLinked next_id (marked records id false)
back_with next_id records id None is may linked = absurd (false≢true may)
back_with next_id records id (Some r) is may linked =
    let all = (and_parts (r.done && is_whole r) (list_all (λ part. is_closest r.id (closest_past records part.path)) r.parts) may).1 in
    let same : r.id ≡ id = eqb-true r.id id (find_passes (has_id id) records r is) in
    IsLinked-marked next_id records id false (at_each records id false r is linked.different linked.each (λ p live. subst (λ n. IsLinkedAt (marked records n false) p) same (back_at records r p all linked.different live (linked.each p)))) linked

pub IsLinked-back : (next_id : ℕ) (records : List Record) (id : ℕ) → option_map_or (may_go_back records) (record_of records id) false ≡ true → IsLinked next_id records → IsLinked next_id (marked records id false)
IsLinked-back next_id records id may linked = back_with next_id records id (record_of records id) refl may linked

forward_with : (next_id : ℕ) (records : List Record) (id : ℕ) (o : Option Record) → record_of records id ≡ o → option_map_or (may_go_forward records) o false ≡ true → IsLinked next_id records → IsLinked next_id (marked records id true)
forward_with next_id records id None is may linked = absurd (false≢true may)
forward_with next_id records id (Some r) is may linked =
    let all = (and_parts (not r.done && is_whole r) (list_all (λ part. is_closest r.id (closest_future records part.path)) r.parts) may).1 in
    let same : r.id ≡ id = eqb-true r.id id (find_passes (has_id id) records r is) in
    IsLinked-marked next_id records id true (at_each records id true r is linked.different linked.each (λ p live. subst (λ n. IsLinkedAt (marked records n true) p) same (forward_at records r p all linked.different live (linked.each p)))) linked

pub IsLinked-forward : (next_id : ℕ) (records : List Record) (id : ℕ) → option_map_or (may_go_forward records) (record_of records id) false ≡ true → IsLinked next_id records → IsLinked next_id (marked records id true)
IsLinked-forward next_id records id may linked = forward_with next_id records id (record_of records id) refl may linked
