-- Records that fit one another fit after an effect that may come.
use Rattle.std.proofs.Common.{◌≡◌, ℕ, Bool, true, false, ◌&&◌, ◌||◌, not, cond, List, [], ◌∷◌, ◌++◌, map, refl, sym, ap, subst, ◌∙◌}
use Rattle.std.specs.Prelude.{is_some}
use Rattle.std.specs.List.{list_any, list_all, AllZip}
use Rattle.std.specs.Ordering.{eq_by_cmp}
use Rattle.std.proofs.lemmas.Bool.{and_from, or_parts, or_from, not-true}
use Rattle.std.proofs.lemmas.List.{append_assoc, map-id}
use Rattle.wse_path.specs.Path.{Path}
use Rattle.wse_path.specs.Order.{path_cmp}
use Rattle.wse_path.specs.Changes.{is_same}
use Rattle.wse_path.proofs.EntryLemmas.{and_parts}
use Rattle.wse_path.proofs.PathOrder.{same_path}
use Rattle.wse_element.specs.declared.state.PartState.TheVariants.{Closed, Incompatible}
use Rattle.wse_element.specs.Record.{Record}
use Rattle.wse_element.specs.Live.{live_part, is_live_at, is_valid_at, old_at, new_at}
use Rattle.wse_element.specs.Stacks.{live_at, past, future, ids, has_id}
use Rattle.wse_element.specs.Effects.{marked}
use Rattle.wse_element.specs.Losses.{lost_at, flushed, future_lost_at, dropped, invalid_at, invalidated}
use Rattle.wse_element.specs.Linked.{are_different, come_first, meets_first, neighbours_meet, IsLinkedAt}
use Rattle.wse_element.proofs.ListLemmas.{filter-map, come_first-append, any_from_all}
use Rattle.wse_element.proofs.LiveLemmas.{live_part-invalid_at_other, invalid_there, live_part-lost_at_same, live_part-lost_at_other}
use Rattle.wse_element.proofs.PastLemmas.{past_and_future, live_at_invalidated, live_at_without_dead, live_at_flushed_same, live_at_flushed_other, live_at_dropped_other, done_stay, past_done, dropped_done}
use Rattle.wse_element.proofs.MoveLemmas.{with_done, moved_back, moved_forward, live_at_marked_other, future_undone}
use Rattle.wse_element.proofs.AlikeLemmas.{SamePart, linked_map, invalid_alike, neighbours_alike}

-- two paths are one, or they aren't
pub by_paths : (p q : Path) (P : Path → Type 0) → P q → (eq_by_cmp path_cmp p q ≡ false → P p) → P p
by_paths p q P same other =
    elim (eq_by_cmp path_cmp p q) as (λ b. eq_by_cmp path_cmp p q ≡ b → P p) [
      | true ↦ λ e. subst P (sym (same_path p q e)) same
      | false ↦ other
    ] refl

-- ---- a flush

linked_empty : (records : List Record) (p : Path) → live_at records p ≡ [] → IsLinkedAt records p
linked_empty records p none = record {
  done_first = ap (come_first (λ (r : Record). r.done)) none;
  invalid_first = ap (come_first (λ (r : Record). not (is_valid_at p r))) none;
  meet = ap (neighbours_meet p) none;
}

pub linked_flushed : (records : List Record) (q p : Path) → IsLinkedAt records p → IsLinkedAt (flushed records q) p
linked_flushed records q p linked =
    by_paths p q (λ x. IsLinkedAt (flushed records q) x) (linked_empty (flushed records q) q (live_at_flushed_same records q))
    (λ other. linked_map records (flushed records q) p (lost_at q Closed) (λ r. record { part = live_part-lost_at_other p q Closed r other refl; done = refl }) (live_at_flushed_other records q p other) linked)

-- ---- a drop

pub any_front : {X : Type 0} (test : X → Bool) (xs ys : List X) → list_any test (xs ++ ys) ≡ false → list_any test xs ≡ false
any_front test [] ys h = refl
any_front test (x ∷ xs) ys h =
    let parts = or_parts (test x) (list_any test (xs ++ ys)) h in
    or_from (test x) (list_any test xs) parts.0 (any_front test xs ys parts.1)

pub come_first_front : {X : Type 0} (test : X → Bool) (xs ys : List X) → come_first test (xs ++ ys) ≡ true → come_first test xs ≡ true
come_first_front test [] ys h = refl
come_first_front test (x ∷ xs) ys h =
    elim (test x) as (λ b. cond b (come_first test (xs ++ ys)) (not (list_any test (xs ++ ys))) ≡ true → cond b (come_first test xs) (not (list_any test xs)) ≡ true) [
      | true ↦ λ k. come_first_front test xs ys k
      | false ↦ λ k. ap not (any_front test xs ys (not-true (list_any test (xs ++ ys)) k))
    ] h

pub neighbours_front : (p : Path) (xs ys : List Record) → neighbours_meet p (xs ++ ys) ≡ true → neighbours_meet p xs ≡ true
neighbours_front p [] ys h = refl
neighbours_front p (x ∷ []) ys h = refl
neighbours_front p (x ∷ y ∷ xs) ys h =
    let parts = and_parts (meets_first p x (y ∷ xs ++ ys)) (neighbours_meet p (y ∷ xs ++ ys)) h in
    and_from (meets_first p x (y ∷ xs)) (neighbours_meet p (y ∷ xs)) parts.0 (neighbours_front p (y ∷ xs) ys parts.1)

dropped_there : (p : Path) (r : Record) → is_live_at p (future_lost_at p r) ≡ (r.done && is_live_at p r)
dropped_there p r =
    elim r.done as (λ b. is_live_at p (cond b r (lost_at p Incompatible r)) ≡ (b && is_live_at p r)) [ true ↦ refl | false ↦ ap is_some (live_part-lost_at_same p Incompatible r refl) ]

pub live_at_dropped_same : (records : List Record) (p : Path) → live_at (dropped records p) p ≡ past records p
live_at_dropped_same records p =
    live_at_without_dead (map (future_lost_at p) records) p
    ∙ filter-map (future_lost_at p) (is_live_at p) (λ r. r.done && is_live_at p r) (dropped_there p) records
    ∙ done_stay p (past records p) (past_done records p)

linked_past : (records : List Record) (p : Path) (new : List Record) → live_at new p ≡ past records p → IsLinkedAt records p → IsLinkedAt new p
linked_past records p new is linked =
    let both = past_and_future records p linked.done_first in
    record {
      done_first = ap (come_first (λ (r : Record). r.done)) is ∙ come_first_front (λ r. r.done) (past records p) (future records p) (ap (come_first (λ (r : Record). r.done)) (sym both) ∙ linked.done_first);
      invalid_first = ap (come_first (λ (r : Record). not (is_valid_at p r))) is ∙ come_first_front (λ r. not (is_valid_at p r)) (past records p) (future records p) (ap (come_first (λ (r : Record). not (is_valid_at p r))) (sym both) ∙ linked.invalid_first);
      meet = ap (neighbours_meet p) is ∙ neighbours_front p (past records p) (future records p) (ap (neighbours_meet p) (sym both) ∙ linked.meet);
    }

dropped_part : (p q : Path) (r : Record) → eq_by_cmp path_cmp p q ≡ false → live_part p (future_lost_at q r) ≡ live_part p r
dropped_part p q r other =
    elim r.done as (λ b. live_part p (cond b r (lost_at q Incompatible r)) ≡ live_part p r) [ true ↦ refl | false ↦ live_part-lost_at_other p q Incompatible r other refl ]

pub linked_dropped : (records : List Record) (q p : Path) → IsLinkedAt records q → IsLinkedAt records p → IsLinkedAt (dropped records q) p
linked_dropped records q p there linked =
    by_paths p q (λ x. IsLinkedAt (dropped records q) x) (linked_past records q (dropped records q) (live_at_dropped_same records q) there)
    (λ other. linked_map records (dropped records q) p (future_lost_at q) (λ r. record { part = dropped_part p q r other; done = dropped_done q r }) (live_at_dropped_other records q p other) linked)

-- ---- an invalidation

none_valid : (p : Path) (records : List Record) → list_all (λ r. not (is_valid_at p r)) (map (invalid_at p) records) ≡ true
none_valid p [] = refl
none_valid p (r ∷ records) = λ i. not (invalid_there p r i) && none_valid p records i

-- all of them come first
pub come_first_all : {X : Type 0} (test : X → Bool) (xs : List X) → list_all test xs ≡ true → come_first test xs ≡ true
come_first_all test [] h = refl
come_first_all test (x ∷ xs) h =
    let parts = and_parts (test x) (list_all test xs) h in
    ap (λ b. cond b (come_first test xs) (not (list_any test xs))) parts.0 ∙ come_first_all test xs parts.1

first_invalid : (p : Path) (r : Record) (records : List Record) → is_valid_at p r ≡ false → meets_first p r records ≡ true
first_invalid p r [] h = refl
first_invalid p r (next ∷ more) h = ap (λ b. cond (b && is_valid_at p next) (is_same (new_at p r) (old_at p next)) true) h

neighbours_invalid : (p : Path) (records : List Record) → list_all (λ r. not (is_valid_at p r)) records ≡ true → neighbours_meet p records ≡ true
neighbours_invalid p [] h = refl
neighbours_invalid p (r ∷ records) h =
    let parts = and_parts (not (is_valid_at p r)) (list_all (λ x. not (is_valid_at p x)) records) h in
    and_from (meets_first p r records) (neighbours_meet p records) (first_invalid p r records (not-true (is_valid_at p r) parts.0)) (neighbours_invalid p records parts.1)

any_done_kept : (q : Path) (records : List Record) → list_any (λ r. r.done) (map (invalid_at q) records) ≡ list_any (λ r. r.done) records
any_done_kept q [] = refl
any_done_kept q (r ∷ records) = ap (λ b. r.done || b) (any_done_kept q records)

done_kept : (q : Path) (records : List Record) → come_first (λ r. r.done) (map (invalid_at q) records) ≡ come_first (λ r. r.done) records
done_kept q [] = refl
done_kept q (r ∷ records) = λ i. cond r.done (done_kept q records i) (not (any_done_kept q records i))

pub linked_invalidated : (records : List Record) (q p : Path) → IsLinkedAt records q → IsLinkedAt records p → IsLinkedAt (invalidated records q) p
linked_invalidated records q p there linked =
    by_paths p q (λ x. IsLinkedAt (invalidated records q) x)
    (record {
      done_first = ap (come_first (λ (r : Record). r.done)) (live_at_invalidated records q q) ∙ done_kept q (live_at records q) ∙ there.done_first;
      invalid_first = ap (come_first (λ (r : Record). not (is_valid_at q r))) (live_at_invalidated records q q) ∙ come_first_all (λ r. not (is_valid_at q r)) (map (invalid_at q) (live_at records q)) (none_valid q (live_at records q));
      meet = ap (neighbours_meet q) (live_at_invalidated records q q) ∙ neighbours_invalid q (map (invalid_at q) (live_at records q)) (none_valid q (live_at records q));
    })
    (λ other. linked_map records (invalidated records q) p (invalid_at q) (λ r. record { part = live_part-invalid_at_other p q r other; done = refl }) (live_at_invalidated records q p) linked)

-- ---- moves

same_parts : (p : Path) (records : List Record) → AllZip (SamePart p) records records
same_parts p [] = tt
same_parts p (r ∷ records) = (refl, same_parts p records)

same_parts_but : (p : Path) (front : List Record) (r : Record) (done : Bool) (back : List Record) → AllZip (SamePart p) (front ++ r ∷ back) (front ++ with_done r done ∷ back)
same_parts_but p [] r done back = (refl, same_parts p back)
same_parts_but p (x ∷ front) r done back = (refl, same_parts_but p front r done back)

done_first_by_parts : (records : List Record) (p : Path) → live_at records p ≡ past records p ++ future records p → come_first (λ r. r.done) (live_at records p) ≡ true
done_first_by_parts records p is =
    ap (come_first (λ (r : Record). r.done)) is
    ∙ come_first-append (λ r. r.done) (past records p) (future records p) (past_done records p) (any_from_all (λ r. r.done) (future records p) (future_undone records p))

-- another mark on one record
linked_marked : (records new : List Record) (p : Path) (front : List Record) (r : Record) (done : Bool) (back : List Record) → live_at records p ≡ front ++ r ∷ back → live_at new p ≡ front ++ with_done r done ∷ back → live_at new p ≡ past new p ++ future new p → IsLinkedAt records p → IsLinkedAt new p
linked_marked records new p front r done back before after parts linked = record {
  done_first = done_first_by_parts new p parts;
  invalid_first = ap (come_first (λ (x : Record). not (is_valid_at p x))) after ∙ invalid_alike p (front ++ r ∷ back) (front ++ with_done r done ∷ back) (same_parts_but p front r done back) ∙ ap (come_first (λ (x : Record). not (is_valid_at p x))) (sym before) ∙ linked.invalid_first;
  meet = ap (neighbours_meet p) after ∙ neighbours_alike p (front ++ r ∷ back) (front ++ with_done r done ∷ back) (same_parts_but p front r done back) ∙ ap (neighbours_meet p) (sym before) ∙ linked.meet;
}

pub linked_back : (records : List Record) (p : Path) (front : List Record) (r : Record) → are_different (ids (live_at records p)) ≡ true → past records p ≡ front ++ r ∷ [] → IsLinkedAt records p → IsLinkedAt (marked records r.id false) p
linked_back records p front r different is linked =
    let moved = moved_back records p front r linked.done_first different is in
    linked_marked records (marked records r.id false) p front r false (future records p) moved.before moved.live
    (moved.live ∙ (λ i. sym moved.past i ++ sym moved.future i)) linked

pub linked_forward : (records : List Record) (p : Path) (r : Record) (back : List Record) → are_different (ids (live_at records p)) ≡ true → future records p ≡ r ∷ back → IsLinkedAt records p → IsLinkedAt (marked records r.id true) p
linked_forward records p r back different is linked =
    let moved = moved_forward records p r back linked.done_first different is in
    linked_marked records (marked records r.id true) p (past records p) r true back moved.before moved.live
    (moved.live ∙ sym (append_assoc (past records p) (with_done r true ∷ []) back) ∙ (λ i. sym moved.past i ++ sym moved.future i)) linked

pub linked_unmarked : (records : List Record) (id : ℕ) (done : Bool) (p : Path) → list_any (has_id id) (live_at records p) ≡ false → IsLinkedAt records p → IsLinkedAt (marked records id done) p
linked_unmarked records id done p none linked = linked_map records (marked records id done) p (λ r. r) (λ r. record { part = refl; done = refl }) (live_at_marked_other records id done p none ∙ sym (map-id (live_at records p))) linked
