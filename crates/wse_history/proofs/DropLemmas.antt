-- The futures of several paths are dropped, one after the other.
use Rattle.std.proofs.Common.{◌≡◌, ℕ, ◌+◌, ◌≤◌, Bool, true, false, cond, not, ◌&&◌, ◌||◌, List, [], ◌∷◌, map, refl, sym, ap, subst, ◌∙◌, arith}
use Rattle.std.specs.Prelude.{filter, is_some, slice_get}
use Rattle.std.specs.List.{list_any, list_all}
use Rattle.std.specs.Ordering.{eq_by_cmp}
use Rattle.std.proofs.lemmas.Bool.{and_from, and_right, or_parts, or_from}
use Rattle.wse_path.specs.Path.{Path}
use Rattle.wse_path.specs.Order.{path_cmp}
use Rattle.wse_path.specs.Versions.{Numbers}
use Rattle.wse_path.proofs.EntryLemmas.{and_parts}
use Rattle.wse_path.proofs.PathOrder.{same_path}
use Rattle.wse_element.specs.declared.state.PartState.TheVariants.{Incompatible}
use Rattle.wse_element.specs.declared.effect.Effect.{Effect}
use Rattle.wse_element.specs.declared.effect.Effect.TheVariants.{Drop}
use Rattle.wse_element.specs.Record.{Record}
use Rattle.wse_element.specs.Stacks.{past, future}
use Rattle.wse_element.specs.Losses.{future_lost_at, dropped}
use Rattle.wse_element.specs.State.{StacksState}
use Rattle.wse_element.specs.Effects.{after, after_each, versions_after_each}
use Rattle.wse_element.specs.Applicable.{has_future}
use Rattle.wse_element.specs.Numbers.{is_bounded, are_versions_bounded, is_known_bounded}
use Rattle.wse_element.proofs.PastLemmas.{past_dropped, future_dropped_same, future_dropped_other}
use Rattle.wse_history.proofs.Edited.{AreOnce}
use Rattle.wse_element.proofs.NumberLemmas.{Bounded, bounded_from, bounded_next}
use Rattle.wse_element.proofs.FallLemmas.{numbers_fall}
use Rattle.wse_element.specs.Weight.{weight}
use Rattle.wse_history.proofs.ComeLemmas.{AllCome}

abbrev pub drops : List Path → List Effect
drops ps = map (λ p. Drop p Incompatible) ps

abbrev pub dropped_each : List Record → List Path → List Record
dropped_each records [] = records
dropped_each records (q ∷ qs) = dropped_each (dropped records q) qs

no_ids_more : (n : ℕ) → n ≡ n + 0
no_ids_more n = omega arith

-- a drop doesn't raise the weight
lighter : (q : Path) (records : List Record) → weight (dropped records q) ≤ weight records
lighter q records = numbers_fall.falls records (Drop q Incompatible) tt

-- ---- one drop

first_of_map : (f : Record → Record) (records : List Record) → is_some (slice_get (map f records) 0) ≡ is_some (slice_get records 0)
first_of_map f [] = refl
first_of_map f (r ∷ records) = refl

-- a drop takes the future of its path and no other
pub future_there : (records : List Record) (q p : Path) → has_future (dropped records q) p ≡ (not (eq_by_cmp path_cmp p q) && has_future records p)
future_there records q p =
    elim (eq_by_cmp path_cmp p q) as (λ b. eq_by_cmp path_cmp p q ≡ b → has_future (dropped records q) p ≡ (not b && has_future records p)) [
      | true ↦ λ e. subst (λ x. has_future (dropped records x) p ≡ false) (same_path p q e) (ap (λ (rs : List Record). is_some (slice_get rs 0)) (future_dropped_same records p))
      | false ↦ λ e. ap (λ (rs : List Record). is_some (slice_get rs 0)) (future_dropped_other records q p e) ∙ first_of_map (future_lost_at q) (future records p)
    ] refl

-- ---- all of them

pub after_drops : (h : StacksState) (qs : List Path) → (after_each h (drops qs)).records ≡ dropped_each h.records qs
after_drops h [] = refl
after_drops h (q ∷ qs) = after_drops (after h (Drop q Incompatible)) qs

pub next_drops : (h : StacksState) (qs : List Path) → (after_each h (drops qs)).next_id ≡ h.next_id
next_drops h [] = refl
next_drops h (q ∷ qs) = next_drops (after h (Drop q Incompatible)) qs ∙ sym (no_ids_more h.next_id)

pub serial_drops : (h : StacksState) (qs : List Path) → (after_each h (drops qs)).serial ≡ h.serial
serial_drops h [] = refl
serial_drops h (q ∷ qs) = serial_drops (after h (Drop q Incompatible)) qs

pub versions_drops : (v : Numbers) (qs : List Path) → versions_after_each v (drops qs) ≡ v
versions_drops v [] = refl
versions_drops v (q ∷ qs) = versions_drops v qs

pub past_drops : (records : List Record) (qs : List Path) (p : Path) → past (dropped_each records qs) p ≡ past records p
past_drops records [] p = refl
past_drops records (q ∷ qs) p = past_drops (dropped records q) qs p ∙ past_dropped records q p

not_either : (later now has : Bool) → (not later && (not now && has)) ≡ (not (now || later) && has)
not_either later true has = and_right (not later) false refl
not_either later false has = refl

pub future_drops : (records : List Record) (qs : List Path) (p : Path) → has_future (dropped_each records qs) p ≡ (not (list_any (eq_by_cmp path_cmp p) qs) && has_future records p)
future_drops records [] p = refl
future_drops records (q ∷ qs) p =
    future_drops (dropped records q) qs p
    ∙ ap (λ b. not (list_any (eq_by_cmp path_cmp p) qs) && b) (future_there records q p)
    ∙ not_either (list_any (eq_by_cmp path_cmp p) qs) (eq_by_cmp path_cmp p q) (has_future records p)

among_filter : (test : Path → Bool) (p : Path) (ps : List Path) → test p ≡ true → list_any (eq_by_cmp path_cmp p) ps ≡ true → list_any (eq_by_cmp path_cmp p) (filter test ps) ≡ true
among_filter test p [] t h = h
among_filter test p (q ∷ qs) t h =
    let left = filter test qs in
    elim (eq_by_cmp path_cmp p q) as (λ b. eq_by_cmp path_cmp p q ≡ b → (b || list_any (eq_by_cmp path_cmp p) qs) ≡ true → list_any (eq_by_cmp path_cmp p) (cond (test q) (q ∷ left) left) ≡ true) [
      | true ↦ λ e _. ap (λ b. list_any (eq_by_cmp path_cmp p) (cond b (q ∷ left) left)) (subst (λ x. test x ≡ true) (same_path p q e) t) ∙ ap (λ b. b || list_any (eq_by_cmp path_cmp p) left) e
      | false ↦ λ e g.
          let rest = among_filter test p qs t g in
          elim (test q) as (λ b. list_any (eq_by_cmp path_cmp p) (cond b (q ∷ left) left) ≡ true) [ true ↦ ap (λ b. b || list_any (eq_by_cmp path_cmp p) left) e ∙ rest | false ↦ rest ]
    ] refl h

-- where each future among these paths is dropped, none of them has one
pub none_left : (records : List Record) (ps : List Path) (p : Path) → list_any (eq_by_cmp path_cmp p) ps ≡ true → has_future (dropped_each records (filter (has_future records) ps)) p ≡ false
none_left records ps p among =
    let gone = list_any (eq_by_cmp path_cmp p) (filter (has_future records) ps) in
    future_drops records (filter (has_future records) ps) p
    ∙ elim (has_future records p) as (λ b. has_future records p ≡ b → (not gone && b) ≡ false) [
      | true ↦ λ e. ap (λ b. not b && true) (among_filter (has_future records) p ps e among)
      | false ↦ λ e. and_right (not gone) false refl
    ] refl

-- ---- paths that stand once

any_left : (kept test : Path → Bool) (ps : List Path) → list_any test ps ≡ false → list_any test (filter kept ps) ≡ false
any_left kept test [] h = refl
any_left kept test (p ∷ ps) h =
    let parts = or_parts (test p) (list_any test ps) h in
    let rest = any_left kept test ps parts.1 in
    elim (kept p) as (λ b. list_any test (cond b (p ∷ filter kept ps) (filter kept ps)) ≡ false) [ true ↦ or_from (test p) (list_any test (filter kept ps)) parts.0 rest | false ↦ rest ]

pub once_filter : (kept : Path → Bool) (ps : List Path) → AreOnce ps → AreOnce (filter kept ps)
once_filter kept [] once = tt
once_filter kept (p ∷ ps) once =
    let rest = once_filter kept ps once.1 in
    elim (kept p) as (λ b. AreOnce (cond b (p ∷ filter kept ps) (filter kept ps))) [ true ↦ (any_left kept (λ q. eq_by_cmp path_cmp q p) ps once.0, rest) | false ↦ rest ]

still_ahead : (records : List Record) (q : Path) (qs : List Path) → list_any (λ x. eq_by_cmp path_cmp x q) qs ≡ false → list_all (has_future records) qs ≡ true → list_all (has_future (dropped records q)) qs ≡ true
still_ahead records q [] none all = refl
still_ahead records q (x ∷ qs) none all =
    let others = or_parts (eq_by_cmp path_cmp x q) (list_any (λ y. eq_by_cmp path_cmp y q) qs) none in
    let parts = and_parts (has_future records x) (list_all (has_future records) qs) all in
    and_from (has_future (dropped records q) x) (list_all (has_future (dropped records q)) qs)
    (future_there records q x ∙ (λ i. not (others.0 i) && parts.0 i)) (still_ahead records q qs others.1 parts.1)

-- ---- they may come

pub drops_come : (serial : ℕ) (h : StacksState) (versions : Numbers) (qs : List Path) → AreOnce qs → list_all (has_future h.records) qs ≡ true → Bounded h
    → are_versions_bounded serial versions ≡ true → is_known_bounded versions ≡ true → AllCome serial h versions (drops qs)
drops_come serial h versions [] once all b numbers knows = tt
drops_come serial h versions (q ∷ qs) once all b numbers knows =
    let parts = and_parts (has_future h.records q) (list_all (has_future h.records) qs) all in
    let next = after h (Drop q Incompatible) in
    let bounded : Bounded next = bounded_next h (dropped h.records q) (lighter q h.records) b in (
      and_from (has_future h.records q) (is_bounded next) parts.0 (bounded_from next bounded),
      and_from (are_versions_bounded serial versions) (is_known_bounded versions) numbers knows,
      drops_come serial next versions qs once.1 (still_ahead h.records q qs once.0 parts.1) bounded numbers knows,
    )

pub bounded_drops : (h : StacksState) (qs : List Path) → Bounded h → Bounded (after_each h (drops qs))
bounded_drops h [] b = b
bounded_drops h (q ∷ qs) b = bounded_drops (after h (Drop q Incompatible)) qs (bounded_next h (dropped h.records q) (lighter q h.records) b)
