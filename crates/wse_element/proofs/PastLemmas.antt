-- Past and future of a path after each effect, told by those before it.
use Rattle.std.proofs.Common.{◌≡◌, Bool, true, false, ◌&&◌, not, cond, List, [], ◌∷◌, ◌++◌, map, refl, sym, ap, ◌∙◌}
use Rattle.std.specs.Prelude.{filter, is_some}
use Rattle.std.specs.List.{list_all}
use Rattle.std.specs.Ordering.{eq_by_cmp}
use Rattle.std.proofs.lemmas.List.Elements.{filter-append, filter_agree}
use Rattle.wse_path.specs.Path.{Path}
use Rattle.wse_path.specs.Order.{path_cmp}
use Rattle.wse_path.proofs.EntryLemmas.{and_parts}
use Rattle.wse_element.specs.declared.state.PartState.{PartState}
use Rattle.wse_element.specs.declared.state.PartState.TheVariants.{Closed, Incompatible}
use Rattle.wse_element.specs.Record.{Record}
use Rattle.wse_element.specs.Live.{is_live, is_live_at, has_live}
use Rattle.wse_element.specs.Stacks.{live_at, past, future, ids}
use Rattle.wse_element.specs.Losses.{lost_at, without_dead, flushed, future_lost_at, dropped, invalid_at, invalidated}
use Rattle.wse_element.specs.Linked.{come_first}
use Rattle.wse_element.proofs.ListLemmas.{filter-map, filter-filter, filter_passes, come_first_parts}
use Rattle.wse_element.proofs.LiveLemmas.{live_somewhere, live-invalid_at, live_part-lost_at_same, live_part-lost_at_other}

-- ---- both are parts of the records that are live at the path

pub past-live_at : (records : List Record) (p : Path) → past records p ≡ filter (λ r. r.done) (live_at records p)
past-live_at records p = sym (filter-filter (λ r. r.done) (is_live_at p) records)

pub future-live_at : (records : List Record) (p : Path) → future records p ≡ filter (λ r. not r.done) (live_at records p)
future-live_at records p = sym (filter-filter (λ r. not r.done) (is_live_at p) records)

-- where the done ones come first, the past and then the future
pub past_and_future : (records : List Record) (p : Path) → come_first (λ r. r.done) (live_at records p) ≡ true → live_at records p ≡ past records p ++ future records p
past_and_future records p h =
    come_first_parts (λ (r : Record). r.done) (live_at records p) h ∙ (λ i. sym (past-live_at records p) i ++ sym (future-live_at records p) i)

-- ---- a push

pub live_at_push : (records : List Record) (r : Record) (p : Path) → live_at (records ++ r ∷ []) p ≡ live_at records p ++ cond (is_live_at p r) (r ∷ []) []
live_at_push records r p = filter-append (is_live_at p) records (r ∷ [])

pub past_push : (records : List Record) (r : Record) (p : Path) → past (records ++ r ∷ []) p ≡ past records p ++ cond (r.done && is_live_at p r) (r ∷ []) []
past_push records r p = filter-append (λ x. x.done && is_live_at p x) records (r ∷ [])

pub future_push : (records : List Record) (r : Record) (p : Path) → future (records ++ r ∷ []) p ≡ future records p ++ cond (not r.done && is_live_at p r) (r ∷ []) []
future_push records r p = filter-append (λ x. not x.done && is_live_at p x) records (r ∷ [])

-- ---- what keeps where each record is live, and whether it is done

module _ (p : Path) (f : Record → Record) (done : (r : Record) → (f r).done ≡ r.done) (live : (r : Record) → is_live_at p (f r) ≡ is_live_at p r) where
  pub live_at-map : (records : List Record) → live_at (map f records) p ≡ map f (live_at records p)
  live_at-map records = filter-map f (is_live_at p) (is_live_at p) live records

  pub past-map : (records : List Record) → past (map f records) p ≡ map f (past records p)
  past-map records = filter-map f (λ r. r.done && is_live_at p r) (λ r. r.done && is_live_at p r) (λ r i. done r i && live r i) records

  pub future-map : (records : List Record) → future (map f records) p ≡ map f (future records p)
  future-map records = filter-map f (λ r. not r.done && is_live_at p r) (λ r. not r.done && is_live_at p r) (λ r i. not (done r i) && live r i) records

pub ids-map : (f : Record → Record) → ((r : Record) → (f r).id ≡ r.id) → (records : List Record) → ids (map f records) ≡ ids records
ids-map f same [] = refl
ids-map f same (r ∷ records) = λ i. same r i ∷ ids-map f same records i

-- ---- an invalidation

pub live_at_invalidated : (records : List Record) (q p : Path) → live_at (invalidated records q) p ≡ map (invalid_at q) (live_at records p)
live_at_invalidated records q p = live_at-map p (invalid_at q) (λ r. refl) (λ r. live-invalid_at p q r) records

pub past_invalidated : (records : List Record) (q p : Path) → past (invalidated records q) p ≡ map (invalid_at q) (past records p)
past_invalidated records q p = past-map p (invalid_at q) (λ r. refl) (λ r. live-invalid_at p q r) records

pub future_invalidated : (records : List Record) (q p : Path) → future (invalidated records q) p ≡ map (invalid_at q) (future records p)
future_invalidated records q p = future-map p (invalid_at q) (λ r. refl) (λ r. live-invalid_at p q r) records

-- ---- records that aren't live anywhere are nowhere

implied : (a b : Bool) → (a ≡ true → b ≡ true) → (a && b) ≡ a
implied true b h = h refl
implied false b h = refl

pub live_at_without_dead : (records : List Record) (p : Path) → live_at (without_dead records) p ≡ live_at records p
live_at_without_dead records p =
    filter-filter (is_live_at p) has_live records
    ∙ filter_agree (λ r. is_live_at p r && has_live r) (is_live_at p) (λ r. implied (is_live_at p r) (has_live r) (live_somewhere p r)) records

pub past_without_dead : (records : List Record) (p : Path) → past (without_dead records) p ≡ past records p
past_without_dead records p = past-live_at (without_dead records) p ∙ ap (filter (λ (r : Record). r.done)) (live_at_without_dead records p) ∙ sym (past-live_at records p)

pub future_without_dead : (records : List Record) (p : Path) → future (without_dead records) p ≡ future records p
future_without_dead records p = future-live_at (without_dead records) p ∙ ap (filter (λ (r : Record). not r.done)) (live_at_without_dead records p) ∙ sym (future-live_at records p)

-- ---- a flush

pub map_none : {X Y : Type 0} (f : X → Y) (test : Y → Bool) → ((x : X) → test (f x) ≡ false) → (xs : List X) → filter test (map f xs) ≡ []
map_none f test none [] = refl
map_none f test none (x ∷ xs) = ap (λ b. cond b (f x ∷ filter test (map f xs)) (filter test (map f xs))) (none x) ∙ map_none f test none xs

pub live_at_flushed_same : (records : List Record) (p : Path) → live_at (flushed records p) p ≡ []
live_at_flushed_same records p =
    live_at_without_dead (map (lost_at p Closed) records) p
    ∙ map_none (lost_at p Closed) (is_live_at p) (λ r. ap is_some (live_part-lost_at_same p Closed r refl)) records

pub past_flushed_same : (records : List Record) (p : Path) → past (flushed records p) p ≡ []
past_flushed_same records p = past-live_at (flushed records p) p ∙ ap (filter (λ (r : Record). r.done)) (live_at_flushed_same records p)

pub future_flushed_same : (records : List Record) (p : Path) → future (flushed records p) p ≡ []
future_flushed_same records p = future-live_at (flushed records p) p ∙ ap (filter (λ (r : Record). not r.done)) (live_at_flushed_same records p)

-- at another path
lost_live : (p q : Path) (state : PartState) → eq_by_cmp path_cmp p q ≡ false → is_live state ≡ false → (r : Record) → is_live_at p (lost_at q state r) ≡ is_live_at p r
lost_live p q state other dead r = ap is_some (live_part-lost_at_other p q state r other dead)

pub live_at_flushed_other : (records : List Record) (q p : Path) → eq_by_cmp path_cmp p q ≡ false → live_at (flushed records q) p ≡ map (lost_at q Closed) (live_at records p)
live_at_flushed_other records q p other =
    live_at_without_dead (map (lost_at q Closed) records) p ∙ live_at-map p (lost_at q Closed) (λ r. refl) (lost_live p q Closed other refl) records

pub past_flushed_other : (records : List Record) (q p : Path) → eq_by_cmp path_cmp p q ≡ false → past (flushed records q) p ≡ map (lost_at q Closed) (past records p)
past_flushed_other records q p other =
    past_without_dead (map (lost_at q Closed) records) p ∙ past-map p (lost_at q Closed) (λ r. refl) (lost_live p q Closed other refl) records

pub future_flushed_other : (records : List Record) (q p : Path) → eq_by_cmp path_cmp p q ≡ false → future (flushed records q) p ≡ map (lost_at q Closed) (future records p)
future_flushed_other records q p other =
    future_without_dead (map (lost_at q Closed) records) p ∙ future-map p (lost_at q Closed) (λ r. refl) (lost_live p q Closed other refl) records

-- ---- a drop

pub dropped_done : (q : Path) (r : Record) → (future_lost_at q r).done ≡ r.done
dropped_done q r = elim r.done as (λ b. (cond b r (lost_at q Incompatible r)).done ≡ r.done) [ true ↦ refl | false ↦ refl ]

dropped_past : (q p : Path) (r : Record) → ((future_lost_at q r).done && is_live_at p (future_lost_at q r)) ≡ (r.done && is_live_at p r)
dropped_past q p r =
    elim r.done as (λ b. r.done ≡ b → ((cond b r (lost_at q Incompatible r)).done && is_live_at p (cond b r (lost_at q Incompatible r))) ≡ (b && is_live_at p r)) [
      | true ↦ λ e. ap (λ b. b && is_live_at p r) e
      | false ↦ λ e. ap (λ b. b && is_live_at p (lost_at q Incompatible r)) e
    ] refl

-- what is done stays as it is
pub done_stay : (q : Path) (records : List Record) → list_all (λ r. r.done) records ≡ true → map (future_lost_at q) records ≡ records
done_stay q [] h = refl
done_stay q (r ∷ records) h =
    let parts = and_parts r.done (list_all (λ (x : Record). x.done) records) h in
    λ i. ap (λ b. cond b r (lost_at q Incompatible r)) parts.0 i ∷ done_stay q records parts.1 i

pub past_done : (records : List Record) (p : Path) → list_all (λ r. r.done) (past records p) ≡ true
past_done records p = ap (list_all (λ (r : Record). r.done)) (past-live_at records p) ∙ filter_passes (λ r. r.done) (live_at records p)

-- it leaves every past
pub past_dropped : (records : List Record) (q p : Path) → past (dropped records q) p ≡ past records p
past_dropped records q p =
    past_without_dead (map (future_lost_at q) records) p
    ∙ filter-map (future_lost_at q) (λ r. r.done && is_live_at p r) (λ r. r.done && is_live_at p r) (dropped_past q p) records
    ∙ done_stay q (past records p) (past_done records p)

dropped_same : (p : Path) (r : Record) → (not (future_lost_at p r).done && is_live_at p (future_lost_at p r)) ≡ false
dropped_same p r =
    elim r.done as (λ b. r.done ≡ b → (not (cond b r (lost_at p Incompatible r)).done && is_live_at p (cond b r (lost_at p Incompatible r))) ≡ false) [
      | true ↦ λ e. ap (λ b. not b && is_live_at p r) e
      | false ↦ λ e. (λ i. not (e i) && is_some (live_part-lost_at_same p Incompatible r refl i))
    ] refl

pub future_dropped_same : (records : List Record) (p : Path) → future (dropped records p) p ≡ []
future_dropped_same records p =
    future_without_dead (map (future_lost_at p) records) p
    ∙ map_none (future_lost_at p) (λ r. not r.done && is_live_at p r) (dropped_same p) records

dropped_other : (q p : Path) → eq_by_cmp path_cmp p q ≡ false → (r : Record) → is_live_at p (future_lost_at q r) ≡ is_live_at p r
dropped_other q p other r =
    elim r.done as (λ b. is_live_at p (cond b r (lost_at q Incompatible r)) ≡ is_live_at p r) [ true ↦ refl | false ↦ lost_live p q Incompatible other refl r ]

pub live_at_dropped_other : (records : List Record) (q p : Path) → eq_by_cmp path_cmp p q ≡ false → live_at (dropped records q) p ≡ map (future_lost_at q) (live_at records p)
live_at_dropped_other records q p other =
    live_at_without_dead (map (future_lost_at q) records) p ∙ live_at-map p (future_lost_at q) (dropped_done q) (dropped_other q p other) records

pub future_dropped_other : (records : List Record) (q p : Path) → eq_by_cmp path_cmp p q ≡ false → future (dropped records q) p ≡ map (future_lost_at q) (future records p)
future_dropped_other records q p other =
    future_without_dead (map (future_lost_at q) records) p ∙ future-map p (future_lost_at q) (dropped_done q) (dropped_other q p other) records
