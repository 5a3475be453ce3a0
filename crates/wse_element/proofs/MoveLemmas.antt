-- Past and future of a path after a move: the closest of the one becomes the closest of the other.
use Rattle.std.proofs.Common.{◌≡◌, ℕ, Bool, true, false, ◌&&◌, not, cond, eqb, List, [], ◌∷◌, ◌++◌, map, refl, sym, ap, ◌∙◌}
use Rattle.std.specs.Prelude.{filter}
use Rattle.std.specs.List.{list_any, list_all}
use Rattle.std.proofs.lemmas.Bool.{or_parts, or_from, not-true, eqb-true, eq-eqb, false_from_ne_true, both_ways}
use Rattle.std.proofs.lemmas.List.{append_assoc, append-nil, map-append}
use Rattle.std.proofs.lemmas.List.Elements.{filter-append}
use Rattle.wse_path.specs.Path.{Path}
use Rattle.wse_path.proofs.EntryLemmas.{and_parts}
use Rattle.wse_element.specs.Record.{Record}
use Rattle.wse_element.specs.Live.{is_live_at}
use Rattle.wse_element.specs.Stacks.{live_at, past, future, ids, has_id}
use Rattle.wse_element.specs.Effects.{marked_one, marked}
use Rattle.wse_element.specs.Linked.{are_different, come_first}
use Rattle.wse_element.proofs.ListLemmas.{filter-map, filter_all, filter_none, filter_passes, any_from_all}
use Rattle.wse_element.proofs.PastLemmas.{past-live_at, future-live_at, past_and_future, past_done}

-- the record with the mark
abbrev pub with_done : Record → Bool → Record
with_done r done = record r { done = done }

marked_live : (p : Path) (id : ℕ) (done : Bool) (r : Record) → is_live_at p (marked_one id done r) ≡ is_live_at p r
marked_live p id done r = elim (has_id id r) as (λ b. is_live_at p (cond b (with_done r done) r) ≡ is_live_at p r) [ true ↦ refl | false ↦ refl ]

pub live_at_marked : (records : List Record) (id : ℕ) (done : Bool) (p : Path) → live_at (marked records id done) p ≡ map (marked_one id done) (live_at records p)
live_at_marked records id done p = filter-map (marked_one id done) (is_live_at p) (is_live_at p) (marked_live p id done) records

-- a list without the id stays
pub marked_none : (id : ℕ) (done : Bool) (records : List Record) → list_any (has_id id) records ≡ false → map (marked_one id done) records ≡ records
marked_none id done [] h = refl
marked_none id done (r ∷ records) h =
    let parts = or_parts (has_id id r) (list_any (has_id id) records) h in
    λ i. ap (λ b. cond b (with_done r done) r) parts.0 i ∷ marked_none id done records parts.1 i

-- at a path where no record with the id is live all stays
pub live_at_marked_other : (records : List Record) (id : ℕ) (done : Bool) (p : Path) → list_any (has_id id) (live_at records p) ≡ false → live_at (marked records id done) p ≡ live_at records p
live_at_marked_other records id done p none = live_at_marked records id done p ∙ marked_none id done (live_at records p) none

pub past_marked_other : (records : List Record) (id : ℕ) (done : Bool) (p : Path) → list_any (has_id id) (live_at records p) ≡ false → past (marked records id done) p ≡ past records p
past_marked_other records id done p none =
    past-live_at (marked records id done) p ∙ ap (filter (λ (r : Record). r.done)) (live_at_marked_other records id done p none) ∙ sym (past-live_at records p)

pub future_marked_other : (records : List Record) (id : ℕ) (done : Bool) (p : Path) → list_any (has_id id) (live_at records p) ≡ false → future (marked records id done) p ≡ future records p
future_marked_other records id done p none =
    future-live_at (marked records id done) p ∙ ap (filter (λ (r : Record). not r.done)) (live_at_marked_other records id done p none) ∙ sym (future-live_at records p)

pub eqb_back : (m n : ℕ) → eqb m n ≡ false → eqb n m ≡ false
eqb_back m n h = false_from_ne_true (eqb n m) (λ e. both_ways (eqb m n) h (eq-eqb m n (sym (eqb-true n m e))))

-- the id isn't among those behind it
pub none_behind : (r : Record) (records : List Record) → list_any (λ m. eqb m r.id) (ids records) ≡ false → list_any (has_id r.id) records ≡ false
none_behind r [] h = refl
none_behind r (x ∷ records) h =
    let parts = or_parts (eqb x.id r.id) (list_any (λ m. eqb m r.id) (ids records)) h in
    or_from (has_id r.id x) (list_any (has_id r.id) records) parts.0 (none_behind r records parts.1)

-- nor is an earlier id any of those
not_later : (id : ℕ) (front : List Record) (r : Record) (back : List Record) → list_any (λ m. eqb m id) (ids (front ++ r ∷ back)) ≡ false → eqb r.id id ≡ false
not_later id [] r back h = (or_parts (eqb r.id id) (list_any (λ m. eqb m id) (ids back)) h).0
not_later id (x ∷ front) r back h = not_later id front r back (or_parts (eqb x.id id) (list_any (λ m. eqb m id) (ids (front ++ r ∷ back))) h).1

-- where all ids are different, a record's id is neither before it nor behind it
pub other_ids : (front : List Record) (r : Record) (back : List Record) → are_different (ids (front ++ r ∷ back)) ≡ true → record { before : list_any (has_id r.id) front ≡ false; behind : list_any (has_id r.id) back ≡ false }
other_ids [] r back h =
    let parts = and_parts (not (list_any (λ m. eqb m r.id) (ids back))) (are_different (ids back)) h in
    record { before = refl; behind = none_behind r back (not-true (list_any (λ m. eqb m r.id) (ids back)) parts.0) }
other_ids (x ∷ front) r back h =
    let parts = and_parts (not (list_any (λ m. eqb m x.id) (ids (front ++ r ∷ back)))) (are_different (ids (front ++ r ∷ back))) h in
    let rest = other_ids front r back parts.1 in
    let here = eqb_back r.id x.id (not_later x.id front r back (not-true (list_any (λ m. eqb m x.id) (ids (front ++ r ∷ back))) parts.0)) in
    record { before = or_from (has_id r.id x) (list_any (has_id r.id) front) here rest.before; behind = rest.behind }

-- the one record with the id, where it stands
pub marked_there : (front : List Record) (r : Record) (back : List Record) (done : Bool) → are_different (ids (front ++ r ∷ back)) ≡ true → map (marked_one r.id done) (front ++ r ∷ back) ≡ front ++ with_done r done ∷ back
marked_there front r back done h =
    let others = other_ids front r back h in
    map-append (marked_one r.id done) front (r ∷ back)
    ∙ (λ i. marked_none r.id done front others.before i ++ ap (λ b. cond b (with_done r done) r) (eq-eqb r.id r.id refl) i ∷ marked_none r.id done back others.behind i)

none_pass : (records : List Record) → list_all (λ r. not r.done) records ≡ true → filter (λ r. r.done) records ≡ []
none_pass records h = filter_none (λ r. r.done) records (any_from_all (λ r. r.done) records h)

all_pass : (records : List Record) → list_all (λ r. r.done) records ≡ true → filter (λ r. not r.done) records ≡ []
all_pass [] h = refl
all_pass (r ∷ records) h =
    let parts = and_parts r.done (list_all (λ (x : Record). x.done) records) h in
    ap (λ b. cond (not b) (r ∷ filter (λ (x : Record). not x.done) records) (filter (λ (x : Record). not x.done) records)) parts.0 ∙ all_pass records parts.1

-- done records, and then others: the past and the future of a list in which they stand so
pub done_part : (front back : List Record) → list_all (λ r. r.done) front ≡ true → list_all (λ r. not r.done) back ≡ true → filter (λ r. r.done) (front ++ back) ≡ front
done_part front back h k =
    filter-append (λ r. r.done) front back ∙ (λ i. filter_all (λ (r : Record). r.done) front h i ++ none_pass back k i) ∙ append-nil front

pub other_part : (front back : List Record) → list_all (λ r. r.done) front ≡ true → list_all (λ r. not r.done) back ≡ true → filter (λ r. not r.done) (front ++ back) ≡ back
other_part front back h k =
    filter-append (λ r. not r.done) front back ∙ (λ i. all_pass front h i ++ filter_all (λ (r : Record). not r.done) back k i)

pub future_undone : (records : List Record) (p : Path) → list_all (λ r. not r.done) (future records p) ≡ true
future_undone records p = ap (list_all (λ (r : Record). not r.done)) (future-live_at records p) ∙ filter_passes (λ r. not r.done) (live_at records p)

all_before : (test : Record → Bool) (front : List Record) (r : Record) → list_all test (front ++ r ∷ []) ≡ true → list_all test front ≡ true
all_before test [] r h = refl
all_before test (x ∷ front) r h =
    let parts = and_parts (test x) (list_all test (front ++ r ∷ [])) h in
    λ i. parts.0 i && all_before test front r parts.1 i

-- ---- a move back: the closest past is the closest future

pub record MovedBack (records : List Record) (p : Path) (front : List Record) (r : Record) : Type 0 where
  pub before : live_at records p ≡ front ++ r ∷ future records p
  pub live : live_at (marked records r.id false) p ≡ front ++ with_done r false ∷ future records p
  pub past : past (marked records r.id false) p ≡ front
  pub future : future (marked records r.id false) p ≡ with_done r false ∷ future records p

pub moved_back : (records : List Record) (p : Path) (front : List Record) (r : Record) → come_first (λ r. r.done) (live_at records p) ≡ true → are_different (ids (live_at records p)) ≡ true → past records p ≡ front ++ r ∷ [] → MovedBack records p front r
moved_back records p front r first different is =
    let ahead = future records p in
    let before : live_at records p ≡ front ++ r ∷ ahead = past_and_future records p first ∙ ap (λ rs. rs ++ ahead) is ∙ append_assoc front (r ∷ []) ahead in
    let live : live_at (marked records r.id false) p ≡ front ++ with_done r false ∷ ahead = live_at_marked records r.id false p ∙ ap (map (marked_one r.id false)) before ∙ marked_there front r ahead false (sym (ap (λ rs. are_different (ids rs)) before) ∙ different) in
    let done = all_before (λ x. x.done) front r (ap (list_all (λ (x : Record). x.done)) (sym is) ∙ past_done records p) in
    let undone : list_all (λ x. not x.done) (with_done r false ∷ ahead) ≡ true = future_undone records p in
    record {
      before = before;
      live = live;
      past = past-live_at (marked records r.id false) p ∙ ap (filter (λ (x : Record). x.done)) live ∙ done_part front (with_done r false ∷ ahead) done undone;
      future = future-live_at (marked records r.id false) p ∙ ap (filter (λ (x : Record). not x.done)) live ∙ other_part front (with_done r false ∷ ahead) done undone;
    }

-- ---- a move forward: the closest future is the closest past

pub record MovedForward (records : List Record) (p : Path) (r : Record) (back : List Record) : Type 0 where
  pub before : live_at records p ≡ past records p ++ r ∷ back
  pub live : live_at (marked records r.id true) p ≡ past records p ++ with_done r true ∷ back
  pub past : past (marked records r.id true) p ≡ past records p ++ with_done r true ∷ []
  pub future : future (marked records r.id true) p ≡ back

pub all_push : (test : Record → Bool) (front : List Record) (r : Record) → list_all test front ≡ true → test r ≡ true → list_all test (front ++ r ∷ []) ≡ true
all_push test [] r h k = λ i. k i && true
all_push test (x ∷ front) r h k =
    let parts = and_parts (test x) (list_all test front) h in
    λ i. parts.0 i && all_push test front r parts.1 k i

pub moved_forward : (records : List Record) (p : Path) (r : Record) (back : List Record) → come_first (λ r. r.done) (live_at records p) ≡ true → are_different (ids (live_at records p)) ≡ true → future records p ≡ r ∷ back → MovedForward records p r back
moved_forward records p r back first different is =
    let behind = past records p in
    let before : live_at records p ≡ behind ++ r ∷ back = past_and_future records p first ∙ ap (λ rs. behind ++ rs) is in
    let live : live_at (marked records r.id true) p ≡ behind ++ with_done r true ∷ back = live_at_marked records r.id true p ∙ ap (map (marked_one r.id true)) before ∙ marked_there behind r back true (sym (ap (λ rs. are_different (ids rs)) before) ∙ different) in
    let parted : live_at (marked records r.id true) p ≡ (behind ++ with_done r true ∷ []) ++ back = live ∙ sym (append_assoc behind (with_done r true ∷ []) back) in
    let done = all_push (λ x. x.done) behind (with_done r true) (past_done records p) refl in
    let undone = (and_parts (not r.done) (list_all (λ (x : Record). not x.done) back) (ap (list_all (λ (x : Record). not x.done)) (sym is) ∙ future_undone records p)).1 in
    record {
      before = before;
      live = live;
      past = past-live_at (marked records r.id true) p ∙ ap (filter (λ (x : Record). x.done)) parted ∙ done_part (behind ++ with_done r true ∷ []) back done undone;
      future = future-live_at (marked records r.id true) p ∙ ap (filter (λ (x : Record). not x.done)) parted ∙ other_part (behind ++ with_done r true ∷ []) back done undone;
    }
