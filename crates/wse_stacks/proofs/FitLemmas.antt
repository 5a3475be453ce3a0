-- A record fits behind a linked list exactly where the list with it is linked.
use Rattle.std.proofs.Common.{◌≡◌, ℕ, suc, ◌+◌, ◌<◌, length, take, drop, arith, ltb, Bool, true, false, ◌&&◌, ◌||◌, not, cond, eqb, List, [], ◌∷◌, ◌++◌, Option, Some, None, refl, sym, ap, subst, ◌∙◌}
use Rattle.std.specs.Prelude.{slice_get}
use Rattle.std.specs.Option.{option_map_or}
use Rattle.std.proofs.lemmas.List.{take_all, take_more, take-append-drop, map-append}
use Rattle.std.proofs.lemmas.List.Elements.{filter-append}
use Rattle.std.specs.List.{list_any, list_all, last_or}
use Rattle.std.proofs.lemmas.Bool.{false≢true, and_from, or_parts, not-true, eqb-true, ltb-true, ltb-false, both_ways}
use Rattle.std.proofs.lemmas.Option.{same_Some, get_or_from_slice_get}
use Rattle.wse_path.specs.Path.{Path}
use Rattle.wse_path.proofs.EntryLemmas.{and_parts}
use Rattle.wse_element.specs.Record.{RecordPart, Record}
use Rattle.wse_element.specs.Live.{is_live_at, is_valid_at, has_live}
use Rattle.wse_element.specs.Stacks.{live_at, ids, has_id}
use Rattle.wse_element.specs.Apart.{is_apart}
use Rattle.wse_element.specs.Linked.{are_different, is_numbered, come_first, meet_at, neighbours_meet, IsLinkedAt, IsLinked}
use Rattle.wse_element.proofs.ListLemmas.{list_all-append}
use Rattle.wse_element.proofs.PastLemmas.{live_at_push}
use Rattle.wse_element.proofs.PushLemmas.{found_in, found_passes}
use Rattle.wse_element.proofs.MoveLemmas.{eqb_back}
use Rattle.wse_element.proofs.FoldLemmas.{take_front, get_behind}
use Rattle.wse_element.proofs.LinkedLemmas.{any_front, come_first_front, neighbours_front}
use Rattle.wse_element.specs.State.{StacksState}
use Rattle.wse_element.specs.Numbers.{is_bounded}
use Rattle.wse_stacks.specs.Fits.{last_live, fits_after, fits_at, fits, IsFirstUnfit}
use Rattle.wse_stacks.specs.Refused.{IsFirstUnlinked}

-- ---- one more behind a list in which some come first

module _ {X : Type 0} (t : X → Bool) where
  none_last : (y l : X) (xs : List X) → t y ≡ false → list_any t xs ≡ false → last_or (Some y) xs ≡ Some l → t l ≡ false
  none_last y l [] h k e = subst (λ z. t z ≡ false) (same_Some y l e) h
  none_last y l (x ∷ xs) h k e = let both = or_parts (t x) (list_any t xs) k in none_last x l xs both.0 both.1 e

  any_behind : (xs : List X) (x : X) → list_any t xs ≡ false → list_any t (xs ++ x ∷ []) ≡ t x
  any_behind [] x h = elim (t x) as (λ b. (b || false) ≡ b) [ true ↦ refl | false ↦ refl ]
  any_behind (y ∷ xs) x h = let both = or_parts (t y) (list_any t xs) h in ap (λ b. b || list_any t (xs ++ x ∷ [])) both.0 ∙ any_behind xs x both.1

  come_first_behind : (y l x : X) (xs : List X) → come_first t (y ∷ xs) ≡ true → last_or (Some y) xs ≡ Some l → come_first t ((y ∷ xs) ++ x ∷ []) ≡ (t l || not (t x))
  come_first_behind y l x [] h e =
      ap (λ b. cond b (cond (t x) true true) (not (t x || false))) (ap t (same_Some y l e))
      ∙ elim (t l) as (λ b. cond b (cond (t x) true true) (not (t x || false)) ≡ (b || not (t x))) [
        | true ↦ elim (t x) as (λ b. cond b true true ≡ true) [ true ↦ refl | false ↦ refl ]
        | false ↦ elim (t x) as (λ b. not (b || false) ≡ not b) [ true ↦ refl | false ↦ refl ]
      ]
  come_first_behind y l x (z ∷ xs) h e =
      elim (t y) as (λ b. t y ≡ b → cond b (come_first t (z ∷ xs)) (not (list_any t (z ∷ xs))) ≡ true → cond b (come_first t ((z ∷ xs) ++ x ∷ [])) (not (list_any t ((z ∷ xs) ++ x ∷ []))) ≡ (t l || not (t x))) [
        | true ↦ λ _ k. come_first_behind z l x xs k e
        | false ↦ λ f k.
            let none = not-true (list_any t (z ∷ xs)) k in
            ap not (any_behind (z ∷ xs) x none) ∙ ap (λ b. b || not (t x)) (sym (none_last y l (z ∷ xs) f none e))
      ] refl h

  come_first_single : (x : X) → come_first t (x ∷ []) ≡ true
  come_first_single x = elim (t x) as (λ b. cond b true true ≡ true) [ true ↦ refl | false ↦ refl ]

and_true : (b : Bool) → (b && true) ≡ b
and_true true = refl
and_true false = refl

neighbours_behind : (p : Path) (y l x : Record) (xs : List Record) → neighbours_meet p (y ∷ xs) ≡ true → last_or (Some y) xs ≡ Some l → neighbours_meet p ((y ∷ xs) ++ x ∷ []) ≡ meet_at p l x
neighbours_behind p y l x [] h e = and_true (meet_at p y x) ∙ ap (λ z. meet_at p z x) (same_Some y l e)
neighbours_behind p y l x (z ∷ xs) h e =
    let both = and_parts (meet_at p y z) (neighbours_meet p (z ∷ xs)) h in
    ap (λ b. b && neighbours_meet p ((z ∷ xs) ++ x ∷ [])) both.0 ∙ neighbours_behind p z l x xs both.1 e

-- ---- at one path

abbrev done_first : List Record → Bool
done_first = come_first (λ r. r.done)

abbrev invalid_first : Path → List Record → Bool
invalid_first p = come_first (λ r. not (is_valid_at p r))

abbrev in_order : Path → List Record → Bool
in_order p xs = done_first xs && invalid_first p xs && neighbours_meet p xs

not_not : (b : Bool) → not (not b) ≡ b
not_not true = refl
not_not false = refl

last_is : {X : Type 0} (y : X) (xs : List X) → record { last : X; is : last_or (Some y) xs ≡ Some last }
last_is y [] = record { last = y; is = refl }
last_is y (x ∷ xs) = last_is x xs

in_order_push : (p : Path) (xs : List Record) (x : Record) → in_order p xs ≡ true → in_order p (xs ++ x ∷ []) ≡ fits_after p x (last_or None xs)
in_order_push p [] x h = (λ i. come_first_single (λ (r : Record). r.done) x i && come_first_single (λ (r : Record). not (is_valid_at p r)) x i && true)
in_order_push p (y ∷ xs) x h =
    let last = last_is y xs in
    let l = last.last in
    let a = and_parts (done_first (y ∷ xs) && invalid_first p (y ∷ xs)) (neighbours_meet p (y ∷ xs)) h in
    let b = and_parts (done_first (y ∷ xs)) (invalid_first p (y ∷ xs)) a.0 in
    let one = come_first_behind (λ (r : Record). r.done) y l x xs b.0 last.is in
    let two = come_first_behind (λ (r : Record). not (is_valid_at p r)) y l x xs b.1 last.is ∙ ap (λ v. not (is_valid_at p l) || v) (not_not (is_valid_at p x)) in
    let three = neighbours_behind p y l x xs a.1 last.is in
    (λ i. one i && two i && three i) ∙ ap (fits_after p x) (sym last.is)

ordered : (p : Path) (xs : List Record) (new : List Record) → live_at new p ≡ xs → in_order p xs ≡ true → IsLinkedAt new p
ordered p xs new e h =
    let a = and_parts (done_first xs && invalid_first p xs) (neighbours_meet p xs) h in
    let b = and_parts (done_first xs) (invalid_first p xs) a.0 in
    record { done_first = ap done_first e ∙ b.0; invalid_first = ap (invalid_first p) e ∙ b.1; meet = ap (neighbours_meet p) e ∙ a.1 }

order_of : (p : Path) (records : List Record) → IsLinkedAt records p → in_order p (live_at records p) ≡ true
order_of p records linked = λ i. linked.done_first i && linked.invalid_first i && linked.meet i

pub push_there : (records : List Record) (x : Record) (p : Path) → is_live_at p x ≡ true → live_at (records ++ x ∷ []) p ≡ live_at records p ++ x ∷ []
push_there records x p live = live_at_push records x p ∙ ap (λ b. live_at records p ++ cond b (x ∷ []) []) live

append_none : {X : Type 0} (xs : List X) → xs ++ [] ≡ xs
append_none [] = refl
append_none (x ∷ xs) = ap (λ ys. x ∷ ys) (append_none xs)

pub push_elsewhere : (records : List Record) (x : Record) (p : Path) → is_live_at p x ≡ false → live_at (records ++ x ∷ []) p ≡ live_at records p
push_elsewhere records x p away = live_at_push records x p ∙ ap (λ b. live_at records p ++ cond b (x ∷ []) []) away ∙ append_none (live_at records p)

linked_behind : (records : List Record) (x : Record) (p : Path) → IsLinkedAt records p → fits_at records x p ≡ true → IsLinkedAt (records ++ x ∷ []) p
linked_behind records x p linked h =
    elim (is_live_at p x) as (λ b. is_live_at p x ≡ b → (not b || fits_after p x (last_live records p)) ≡ true → IsLinkedAt (records ++ x ∷ []) p) [
      | true ↦ λ live k. ordered p (live_at records p ++ x ∷ []) (records ++ x ∷ []) (push_there records x p live) (in_order_push p (live_at records p) x (order_of p records linked) ∙ k)
      | false ↦ λ away _. ordered p (live_at records p) (records ++ x ∷ []) (push_elsewhere records x p away) (order_of p records linked)
    ] refl h

fits_behind : (records : List Record) (x : Record) (p : Path) → IsLinkedAt records p → IsLinkedAt (records ++ x ∷ []) p → fits_at records x p ≡ true
fits_behind records x p linked new =
    elim (is_live_at p x) as (λ b. is_live_at p x ≡ b → (not b || fits_after p x (last_live records p)) ≡ true) [
      | true ↦ λ live. sym (in_order_push p (live_at records p) x (order_of p records linked)) ∙ ap (in_order p) (sym (push_there records x p live)) ∙ order_of p (records ++ x ∷ []) new
      | false ↦ λ _. refl
    ] refl

-- ---- ids

eqb_turn : (m n : ℕ) → eqb m n ≡ eqb n m
eqb_turn m n =
    elim (eqb m n) as (λ b. eqb m n ≡ b → b ≡ eqb n m) [
      | true ↦ λ e. let same : m ≡ n = eqb-true m n e in subst (λ k. true ≡ eqb k m) same (sym (subst (λ k. eqb m k ≡ true) (sym same) e))
      | false ↦ λ e. sym (eqb_back m n e)
    ] refl

regrouped : (a e d k : Bool) → (not (a || e) && (d && not k)) ≡ ((not a && d) && not (e || k))
regrouped true e d k = refl
regrouped false true true k = refl
regrouped false true false k = refl
regrouped false false d k = refl

any_id_behind : (n m : ℕ) (ns : List ℕ) → list_any (λ x. eqb x n) (ns ++ m ∷ []) ≡ (list_any (λ x. eqb x n) ns || eqb m n)
any_id_behind n m [] = elim (eqb m n) as (λ b. (b || false) ≡ b) [ true ↦ refl | false ↦ refl ]
any_id_behind n m (x ∷ ns) = elim (eqb x n) as (λ b. (b || list_any (λ y. eqb y n) (ns ++ m ∷ [])) ≡ ((b || list_any (λ y. eqb y n) ns) || eqb m n)) [ true ↦ refl | false ↦ any_id_behind n m ns ]

ids_push : (records : List Record) (x : Record) → ids (records ++ x ∷ []) ≡ ids records ++ x.id ∷ []
ids_push [] x = refl
ids_push (r ∷ records) x = ap (λ ns. r.id ∷ ns) (ids_push records x)

different_behind : (records : List Record) (x : Record) → are_different (ids (records ++ x ∷ [])) ≡ (are_different (ids records) && not (list_any (has_id x.id) records))
different_behind [] x = refl
different_behind (r ∷ records) x =
    let other = list_any (λ m. eqb m r.id) (ids records) in
    (λ i. not (list_any (λ (m : ℕ). eqb m r.id) (ids_push records x i)) && different_behind records x i)
    ∙ (λ i. not (any_id_behind r.id x.id (ids records) i) && (are_different (ids records) && not (list_any (has_id x.id) records)))
    ∙ regrouped other (eqb x.id r.id) (are_different (ids records)) (list_any (has_id x.id) records)
    ∙ (λ i. (not other && are_different (ids records)) && not (eqb_turn x.id r.id i || list_any (has_id x.id) records))

-- ---- all that a record has to meet

all_last : {X : Type 0} (t : X → Bool) (xs : List X) (x : X) → list_all t (xs ++ x ∷ []) ≡ true → t x ≡ true
all_last t [] x h = (and_parts (t x) true h).0
all_last t (y ∷ xs) x h = all_last t xs x (and_parts (t y) (list_all t (xs ++ x ∷ [])) h).1

all_from : {X : Type 0} (t : X → Bool) (xs : List X) → ((x : X) → t x ≡ true) → list_all t xs ≡ true
all_from t [] h = refl
all_from t (x ∷ xs) h = and_from (t x) (list_all t xs) (h x) (all_from t xs h)

at_any_path : (records : List Record) (x : Record) (p : Path) → list_all (λ part. fits_at records x part.path) x.parts ≡ true → fits_at records x p ≡ true
at_any_path records x p h =
    elim (is_live_at p x) as (λ b. is_live_at p x ≡ b → fits_at records x p ≡ true) [
      | true ↦ λ live.
          let found = found_in p x live in
          subst (λ q. fits_at records x q ≡ true) (sym found.at) (found_passes p x (λ part. fits_at records x part.path) h found)
      | false ↦ λ away. ap (λ b. not b || fits_after p x (last_live records p)) away
    ] refl

module _ (next_id : ℕ) (records : List Record) (x : Record) where
  abbrev new_id : Bool
  new_id = not (list_any (has_id x.id) records)

  abbrev fits_each : Bool
  fits_each = list_all (λ part. fits_at records x part.path) x.parts

  pub linked_push : IsLinked next_id records → fits next_id records x ≡ true → IsLinked next_id (records ++ x ∷ [])
  linked_push linked h =
      let a = and_parts (new_id && is_numbered next_id x && has_live x && is_apart x) fits_each h in
      let b = and_parts (new_id && is_numbered next_id x && has_live x) (is_apart x) a.0 in
      let c = and_parts (new_id && is_numbered next_id x) (has_live x) b.0 in
      let d = and_parts new_id (is_numbered next_id x) c.0 in
      record {
        different = different_behind records x ∙ and_from (are_different (ids records)) new_id linked.different d.0;
        numbered = list_all-append (is_numbered next_id) records (x ∷ []) linked.numbered (and_from (is_numbered next_id x) true d.1 refl);
        live = list_all-append has_live records (x ∷ []) linked.live (and_from (has_live x) true c.1 refl);
        apart = list_all-append is_apart records (x ∷ []) linked.apart (and_from (is_apart x) true b.1 refl);
        each = λ p. linked_behind records x p (linked.each p) (at_any_path records x p a.1);
      }

  fits_push : IsLinked next_id records → IsLinked next_id (records ++ x ∷ []) → fits next_id records x ≡ true
  fits_push linked new =
      let e = (and_parts (are_different (ids records)) new_id (sym (different_behind records x) ∙ new.different)).1 in
      let d = and_from new_id (is_numbered next_id x) e (all_last (is_numbered next_id) records x new.numbered) in
      let c = and_from (new_id && is_numbered next_id x) (has_live x) d (all_last has_live records x new.live) in
      let b = and_from (new_id && is_numbered next_id x && has_live x) (is_apart x) c (all_last is_apart records x new.apart) in
      and_from (new_id && is_numbered next_id x && has_live x && is_apart x) fits_each b
      (all_from (λ (part : RecordPart). fits_at records x part.path) x.parts (λ part. fits_behind records x part.path (linked.each part.path) (new.each part.path)))

  pub unlinked_push : IsLinked next_id records → fits next_id records x ≡ false → IsLinked next_id (records ++ x ∷ []) → ⊥
  unlinked_push linked h new = false≢true (sym h ∙ fits_push linked new)

-- no records
pub linked_none : (next_id : ℕ) → IsLinked next_id []
linked_none next_id = record { different = refl; numbered = refl; live = refl; apart = refl; each = λ p. record { done_first = refl; invalid_first = refl; meet = refl } }

-- ---- the first that doesn't fit

length_behind : {X : Type 0} (xs : List X) (y : X) (ys : List X) → length xs < length (xs ++ y ∷ ys)
length_behind [] y ys = (let h : 0 < suc (length ys) = omega arith in h)
length_behind (x ∷ xs) y ys = (let rest = length_behind xs y ys in let h : suc (length xs) < suc (length (xs ++ y ∷ ys)) = omega arith in h)

pub unfit_here : (next_id : ℕ) (records front : List Record) (x : Record) (rest : List Record) (n : ℕ) → records ≡ front ++ x ∷ rest → n ≡ length front → IsLinked next_id front → fits next_id front x ≡ false → IsFirstUnfit next_id records (Some n)
unfit_here next_id records front x rest n e k linked unfit =
    subst (λ (rs : List Record). IsFirstUnfit next_id rs (Some n)) (sym e)
    (subst (λ m. IsFirstUnfit next_id (front ++ x ∷ rest) (Some m)) (sym k) (
      length_behind front x rest,
      (
        subst (λ (rs : List Record). IsLinked next_id rs) (sym (take_front front (x ∷ rest))) linked,
        (λ i. option_map_or (fits next_id (take_front front (x ∷ rest) i)) (get_behind front x rest i) true) ∙ unfit,
      ),
    ))

-- the record there
there : (next_id : ℕ) (records : List Record) (at : ℕ) (o : Option Record) → slice_get records at ≡ o → at < length records → IsLinked next_id (take at records) → option_map_or (fits next_id (take at records)) o true ≡ false → IsLinked next_id (take (at + 1) records) → ⊥
there next_id records at None e l linked h new = false≢true (sym h)
there next_id records at (Some x) e l linked h new =
    let more = take_more records at x l ∙ ap (λ y. take at records ++ y ∷ []) (get_or_from_slice_get records at x x e) in
    unlinked_push next_id (take at records) x linked h (subst (λ (rs : List Record). IsLinked next_id rs) more new)

pub unfit_unlinked : (h : StacksState) (at : ℕ) → IsFirstUnfit h.next_id h.records (Some at) → IsFirstUnlinked h at
unfit_unlinked h at unfit = record {
  within = (let l : at < length h.records = unfit.0 in omega arith);
  before = unfit.1.0;
  here = λ l new. there h.next_id h.records at (slice_get h.records at) refl l unfit.1.0 unfit.1.1 new;
  numbers = λ e. absurd (let l : at < length h.records = unfit.0 in omega arith);
}

pub unbounded : (h : StacksState) (n : ℕ) → n ≡ length h.records → IsLinked h.next_id h.records → is_bounded h ≡ false → IsFirstUnlinked h n
unbounded h n e linked not_bounded = record {
  within = omega arith;
  before = subst (λ (rs : List Record). IsLinked h.next_id rs) (sym (take_all n h.records (omega arith))) linked;
  here = λ l. absurd (omega arith);
  numbers = λ _. not_bounded;
}

-- ---- the front of a linked list

all_front : {X : Type 0} (t : X → Bool) (xs ys : List X) → list_all t (xs ++ ys) ≡ true → list_all t xs ≡ true
all_front t [] ys h = refl
all_front t (x ∷ xs) ys h = let both = and_parts (t x) (list_all t (xs ++ ys)) h in and_from (t x) (list_all t xs) both.0 (all_front t xs ys both.1)

different_front : (ms ns : List ℕ) → are_different (ms ++ ns) ≡ true → are_different ms ≡ true
different_front [] ns h = refl
different_front (m ∷ ms) ns h =
    let both = and_parts (not (list_any (λ k. eqb k m) (ms ++ ns))) (are_different (ms ++ ns)) h in
    and_from (not (list_any (λ k. eqb k m) ms)) (are_different ms)
    (ap not (any_front (λ k. eqb k m) ms ns (not-true (list_any (λ k. eqb k m) (ms ++ ns)) both.0))) (different_front ms ns both.1)

front_at : (xs ys : List Record) (p : Path) → IsLinkedAt (xs ++ ys) p → IsLinkedAt xs p
front_at xs ys p linked =
    let parts = filter-append (is_live_at p) xs ys in
    record {
      done_first = come_first_front (λ r. r.done) (live_at xs p) (live_at ys p) (sym (ap done_first parts) ∙ linked.done_first);
      invalid_first = come_first_front (λ r. not (is_valid_at p r)) (live_at xs p) (live_at ys p) (sym (ap (invalid_first p) parts) ∙ linked.invalid_first);
      meet = neighbours_front p (live_at xs p) (live_at ys p) (sym (ap (neighbours_meet p) parts) ∙ linked.meet);
    }

linked_front : (next_id : ℕ) (xs ys : List Record) → IsLinked next_id (xs ++ ys) → IsLinked next_id xs
linked_front next_id xs ys linked = record {
  different = different_front (ids xs) (ids ys) (sym (ap are_different (map-append (λ (r : Record). r.id) xs ys)) ∙ linked.different);
  numbered = all_front (is_numbered next_id) xs ys linked.numbered;
  live = all_front has_live xs ys linked.live;
  apart = all_front is_apart xs ys linked.apart;
  each = λ p. front_at xs ys p (linked.each p);
}

-- where a place is told, the whole isn't linked and within its bounds
pub whole_unlinked : (h : StacksState) (at : ℕ) → IsFirstUnlinked h at → IsLinked h.next_id h.records → is_bounded h ≡ true → ⊥
whole_unlinked h at first linked bounded =
    elim (ltb at (length h.records)) as (λ b. ltb at (length h.records) ≡ b → ⊥) [
      | true ↦ λ l. first.here (ltb-true at (length h.records) l)
          (linked_front h.next_id (take (at + 1) h.records) (drop (at + 1) h.records) (subst (λ (rs : List Record). IsLinked h.next_id rs) (sym (take-append-drop (at + 1) h.records)) linked))
      | false ↦ λ l. both_ways (is_bounded h) (first.numbers (let high = ltb-false at (length h.records) l in let low = first.within in omega (arith, high, low))) bounded
    ] refl
