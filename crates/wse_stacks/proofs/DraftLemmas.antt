-- Effects that are tried one by one are applicable where none stops.
use Rattle.std.proofs.Common.{◌≡◌, ◌≢◌, ℕ, suc, zero, ◌+◌, ◌*◌, ◌-◌, ◌^◌, ◌<◌, ◌≤◌, Bool, true, false, ◌&&◌, ◌||◌, not, cond, List, [], ◌∷◌, ◌++◌, length, take, drop, get_or, drop-cons, Option, Some, None, refl, sym, ap, subst, ◌∙◌, append_assoc, arith}
use Rattle.std.specs.Prelude.{find, option_map, slice_get, nat_le}
use Rattle.std.specs.List.{list_any, range_with_len, AllByRecursion}
use Rattle.std.specs.Option.{option_map_or}
use Rattle.std.proofs.lemmas.Bool.{leb-true}
use Rattle.std.proofs.lemmas.List.{take_more}
use Rattle.std.proofs.lemmas.Option.{none-some}
use Rattle.wse_path.proofs.EntryLemmas.{and_parts}
use Rattle.wse_element.specs.declared.effect.Effect.{Effect}
use Rattle.wse_element.specs.State.{StacksState}
use Rattle.wse_element.specs.Effects.{ids_taken, after, after_each, begun}
use Rattle.wse_element.specs.Linked.{IsLinked}
use Rattle.wse_element.specs.Numbers.{is_bounded, is_serial_bounded, is_next_id_bounded, is_weight_bounded}
use Rattle.wse_element.specs.Applicable.{sets_tree, may_come, is_applicable, is_applicable_behind, is_applicable_at, first_refused}
use Rattle.wse_element.proofs.EffectLemmas.{linked_after}
use Rattle.wse_element.proofs.KeptLemmas.{parts_after}
use Rattle.wse_stacks.specs.Draft.{DraftState, next_draft, next_drafts, is_next, first_stop, begun_draft}
use Rattle.wse_element.specs.Laws.{PushesParts}
use Rattle.wse_stacks.specs.Stacks.{HaveParts}

-- ---- the place of the first that stops

find_same : {X : Type 0} (p q : X → Bool) (xs : List X) → ((x : X) → p x ≡ q x) → find p xs ≡ find q xs
find_same p q [] h = refl
find_same p q (x ∷ xs) h = (λ i. cond (h x i) (Some x) (find_same p q xs h i))

take_front : {X : Type 0} (xs ys : List X) → take (length xs) (xs ++ ys) ≡ xs
take_front [] ys = refl
take_front (x ∷ xs) ys = ap (λ zs. x ∷ zs) (take_front xs ys)

get_behind : {X : Type 0} (xs : List X) (y : X) (ys : List X) → slice_get (xs ++ y ∷ ys) (length xs) ≡ Some y
get_behind [] y ys = refl
get_behind (x ∷ xs) y ys = get_behind xs y ys

any_one_more : {X : Type 0} (t : X → Bool) (xs : List X) (x : X) → list_any t (xs ++ x ∷ []) ≡ (list_any t xs || t x)
any_one_more t [] x = elim (t x) as (λ b. (b || false) ≡ b) [ true ↦ refl | false ↦ refl ]
any_one_more t (y ∷ xs) x = elim (t y) as (λ b. (b || list_any t (xs ++ x ∷ [])) ≡ ((b || list_any t xs) || t x)) [ true ↦ refl | false ↦ any_one_more t xs x ]

after_one_more : (h : StacksState) (before : List Effect) (effect : Effect) → after_each h (before ++ effect ∷ []) ≡ after (after_each h before) effect
after_one_more h [] effect = refl
after_one_more h (e ∷ before) effect = after_one_more (after h e) before effect

length_one_more : {X : Type 0} (xs : List X) (x : X) → length (xs ++ x ∷ []) ≡ suc (length xs)
length_one_more [] x = refl
length_one_more (y ∷ xs) x = ap suc (length_one_more xs x)

-- what a draft is behind these effects
record Behind (h : StacksState) (before : List Effect) (d : DraftState) : Type 0 where
  state : d.state ≡ after_each (begun h) before
  sets : d.sets ≡ list_any sets_tree before

behind_more : (h : StacksState) (before : List Effect) (d : DraftState) (effect : Effect) → Behind h before d → Behind h (before ++ effect ∷ []) (next_draft d effect)
behind_more h before d effect b = record {
  state = ap (λ s. after s effect) b.state ∙ sym (after_one_more (begun h) before effect);
  sets = ap (λ x. x || sets_tree effect) b.sets ∙ sym (any_one_more sets_tree before effect);
}

next_here : (h : StacksState) (before : List Effect) (d : DraftState) (effect : Effect) (more : List Effect) → Behind h before d → is_applicable_at h (before ++ effect ∷ more) (length before) ≡ is_next d effect
next_here h before d effect more b =
    ap (λ o. option_map_or (is_applicable_behind h (take (length before) (before ++ effect ∷ more))) o false) (get_behind before effect more)
    ∙ ap (λ es. is_applicable_behind h es effect) (take_front before (effect ∷ more))
    ∙ (λ i. not (sets_tree effect && sym b.sets i) && is_applicable (sym b.state i) effect)

one_on : (k : ℕ) (o : Option ℕ) → option_map (λ n. (k + 1) + n) o ≡ option_map (λ n. k + n) (option_map suc o)
one_on k None = refl
one_on k (Some n) = let e : (k + 1) + n ≡ k + suc n = omega arith in ap (λ m. Some m) e

one_more : (d : DraftState) (before : List Effect) (e : Effect) → next_drafts d (before ++ e ∷ []) ≡ next_draft (next_drafts d before) e
one_more d [] e = refl
one_more d (x ∷ before) e = one_more (next_draft d x) before e

all_one_more : (before : List Effect) (e : Effect) → AllByRecursion PushesParts before → PushesParts e → AllByRecursion PushesParts (before ++ e ∷ [])
all_one_more [] e all h = (h, tt)
all_one_more (x ∷ before) e all h = (all.0, all_one_more before e all.1 h)

dropped_one : (effects : List Effect) (i : ℕ) (e : Effect) → i < length effects → e ≡ get_or effects i e → drop i effects ≡ e ∷ drop (i + 1) effects
dropped_one effects i e h k =
    let s : suc i ≡ i + 1 = omega arith in
    drop-cons effects i e h ∙ (λ j. sym k j ∷ drop (s j) effects)

drop_all : {X : Type 0} (xs : List X) (i : ℕ) → length xs ≤ i → drop i xs ≡ []
drop_all [] zero h = refl
drop_all [] (suc i) h = refl
drop_all (x ∷ xs) zero h = absurd (omega arith)
drop_all (x ∷ xs) (suc i) h = drop_all xs i (omega arith)

stop_at : (h : StacksState) (before more : List Effect) (d : DraftState) (k : ℕ) → k ≡ length before → Behind h before d → find (λ i. not (is_applicable_at h (before ++ more) i)) (range_with_len k (length more)) ≡ option_map (λ n. k + n) (first_stop d more)
stop_at h before [] d k e b = refl
stop_at h before (effect ∷ more) d k e b =
    let all = before ++ effect ∷ more in
    let here : is_applicable_at h all k ≡ is_next d effect = ap (is_applicable_at h all) e ∙ next_here h before d effect more b in
    let rest = find (λ i. not (is_applicable_at h all i)) (range_with_len (k + 1) (length more)) in
    let next = first_stop (next_draft d effect) more in
    let on = stop_at h (before ++ effect ∷ []) more (next_draft d effect) (k + 1) (let s : k + 1 ≡ suc k = omega arith in s ∙ ap suc e ∙ sym (length_one_more before effect)) (behind_more h before d effect b) in
    let there : rest ≡ option_map (λ n. (k + 1) + n) next = subst (λ (es : List Effect). find (λ i. not (is_applicable_at h es i)) (range_with_len (k + 1) (length more)) ≡ option_map (λ n. (k + 1) + n) next) (append_assoc before (effect ∷ []) more) on in
    ap (λ x. cond (not x) (Some k) rest) here
    ∙ elim (is_next d effect) as (λ x. cond (not x) (Some k) rest ≡ option_map (λ n. k + n) (cond x (option_map suc next) (Some 0))) [
      | true ↦ there ∙ one_on k next
      | false ↦ (let z : k ≡ k + 0 = omega arith in ap (λ n. Some n) z)
    ]

same_option : (o : Option ℕ) → option_map (λ n. 0 + n) o ≡ o
same_option None = refl
same_option (Some n) = (let e : 0 + n ≡ n = omega arith in ap (λ m. Some m) e)

pub stops_where_refused : (h : StacksState) (effects : List Effect) → first_refused h effects ≡ first_stop (begun_draft h) effects
stops_where_refused h effects = stop_at h [] effects (begun_draft h) 0 refl (record { state = refl; sets = refl }) ∙ same_option (first_stop (begun_draft h) effects)

-- ---- what a draft is behind all

pub state_after_all : (d : DraftState) (effects : List Effect) → (next_drafts d effects).state ≡ after_each d.state effects
state_after_all d [] = refl
state_after_all d (effect ∷ more) = state_after_all (next_draft d effect) more

none_mapped : (o : Option ℕ) → option_map suc o ≡ None → o ≡ None
none_mapped None h = refl
none_mapped (Some n) h = cc

-- the first effect doesn't stop, nor do those behind it
pub record GoesOn (d : DraftState) (effect : Effect) (more : List Effect) : Type 0 where
  pub here : is_next d effect ≡ true
  pub on : first_stop (next_draft d effect) more ≡ None

pub goes_on : (d : DraftState) (effect : Effect) (more : List Effect) → first_stop d (effect ∷ more) ≡ None → GoesOn d effect more
goes_on d effect more h =
    elim (is_next d effect) as (λ b. is_next d effect ≡ b → cond b (option_map suc (first_stop (next_draft d effect) more)) (Some 0) ≡ None → GoesOn d effect more) [
      | true ↦ λ e k. record { here = e; on = none_mapped (first_stop (next_draft d effect) more) k }
      | false ↦ λ _ k. absurd (none-some 0 (sym k))
    ] refl h

pub may_come_next : (d : DraftState) (effect : Effect) → is_next d effect ≡ true → may_come d.state effect ≡ true
may_come_next d effect h = (and_parts (may_come d.state effect) (is_bounded (after d.state effect)) (and_parts (not (sets_tree effect && d.sets)) (is_applicable d.state effect) h).1).0

pub bounded_next : (d : DraftState) (effect : Effect) → is_next d effect ≡ true → is_bounded (after d.state effect) ≡ true
bounded_next d effect h = (and_parts (may_come d.state effect) (is_bounded (after d.state effect)) (and_parts (not (sets_tree effect && d.sets)) (is_applicable d.state effect) h).1).1

-- ---- histories

pub record IsKept (s : StacksState) : Type 0 where
  pub parts : HaveParts s.records
  pub linked : IsLinked s.next_id s.records
  pub positive : 0 < s.next_id

pub kept_next : (d : DraftState) (effect : Effect) → PushesParts effect → is_next d effect ≡ true → IsKept d.state → IsKept (after d.state effect)
kept_next d effect parts h kept = record {
  parts = parts_after d.state.records effect kept.parts parts;
  linked = linked_after d.state effect kept.positive kept.parts parts (may_come_next d effect h) kept.linked;
  positive = let p : 0 < d.state.next_id = kept.positive in (let q : 0 < d.state.next_id + ids_taken d.state.records effect = omega arith in q);
}

pub kept_each : (d : DraftState) (effects : List Effect) → AllByRecursion PushesParts effects → first_stop d effects ≡ None → IsKept d.state → IsKept (next_drafts d effects).state
kept_each d [] parts h kept = kept
kept_each d (effect ∷ more) parts h kept =
    let goes = goes_on d effect more h in
    kept_each (next_draft d effect) more parts.1 goes.on (kept_next d effect parts.0 goes.here kept)

pub bounded_each : (d : DraftState) (effects : List Effect) → effects ≢ [] → first_stop d effects ≡ None → is_bounded (next_drafts d effects).state ≡ true
bounded_each d [] some h = absurd (some refl)
bounded_each d (effect ∷ []) some h = bounded_next d effect (goes_on d effect [] h).here
bounded_each d (effect ∷ next ∷ more) some h = bounded_each (next_draft d effect) (next ∷ more) (λ e. cc) (goes_on d effect (next ∷ more) h).on

-- a bounded history's next id
pub record IdBounds (s : StacksState) : Type 0 where
  pub positive : 1 ≤ s.next_id
  pub small : s.next_id < 2 ^ 63
  pub serial : s.serial < 2 ^ 30

pub id_bounds : (s : StacksState) → is_bounded s ≡ true → IdBounds s
id_bounds s h =
    let a = and_parts (is_serial_bounded s && is_next_id_bounded s) (is_weight_bounded s) h in
    let b = and_parts (is_serial_bounded s) (is_next_id_bounded s) a.0 in
    let c = and_parts (nat_le 1 s.next_id) (nat_le s.next_id (1 + s.serial * 2 ^ 32)) b.1 in
    let serial : s.serial ≤ 2 ^ 30 - 1 = leb-true s.serial (2 ^ 30 - 1) b.0 in
    let low : 1 ≤ s.next_id = leb-true 1 s.next_id c.0 in
    let high : s.next_id ≤ 1 + s.serial * 2 ^ 32 = leb-true s.next_id (1 + s.serial * 2 ^ 32) c.1 in
    record { positive = low; small = omega arith; serial = omega arith }

-- ---- one by one

pub drafts_more : (d : DraftState) (effects : List Effect) (i : ℕ) (e : Effect) → i < length effects → e ≡ get_or effects i e → next_drafts d (take (i + 1) effects) ≡ next_draft (next_drafts d (take i effects)) e
drafts_more d effects i e h k =
    let more : take (i + 1) effects ≡ take i effects ++ get_or effects i e ∷ [] = take_more effects i e h in
    ap (next_drafts d) (more ∙ ap (λ x. take i effects ++ x ∷ []) (sym k)) ∙ one_more d (take i effects) e

pub stop_more : (d : DraftState) (effects : List Effect) (i : ℕ) (e : Effect) (o : Option ℕ) → i < length effects → e ≡ get_or effects i e → o ≡ option_map (λ n. i + n) (first_stop d (drop i effects)) → is_next d e ≡ true → o ≡ option_map (λ n. (i + 1) + n) (first_stop (next_draft d e) (drop (i + 1) effects))
stop_more d effects i e o h k is next =
    let here = dropped_one effects i e h k in
    is
    ∙ ap (λ es. option_map (λ n. i + n) (first_stop d es)) here
    ∙ ap (λ b. option_map (λ n. i + n) (cond b (option_map suc (first_stop (next_draft d e) (drop (i + 1) effects))) (Some 0))) next
    ∙ sym (one_on i (first_stop (next_draft d e) (drop (i + 1) effects)))

pub stop_here : (d : DraftState) (effects : List Effect) (i : ℕ) (e : Effect) (o : Option ℕ) → i < length effects → e ≡ get_or effects i e → o ≡ option_map (λ n. i + n) (first_stop d (drop i effects)) → is_next d e ≡ false → Some i ≡ o
stop_here d effects i e o h k is stops =
    let z : i ≡ i + 0 = omega arith in
    ap (λ n. Some n) z
    ∙ sym (ap (λ b. option_map (λ n. i + n) (cond b (option_map suc (first_stop (next_draft d e) (drop (i + 1) effects))) (Some 0))) stops)
    ∙ sym (ap (λ es. option_map (λ n. i + n) (first_stop d es)) (dropped_one effects i e h k))
    ∙ sym is

pub stop_none : (d : DraftState) (effects : List Effect) (i : ℕ) (o : Option ℕ) → length effects ≤ i → o ≡ option_map (λ n. i + n) (first_stop d (drop i effects)) → None ≡ o
stop_none d effects i o h is = sym (is ∙ ap (λ es. option_map (λ n. i + n) (first_stop d es)) (drop_all effects i h))

pub parts_more : (effects : List Effect) (i : ℕ) (e : Effect) → i < length effects → e ≡ get_or effects i e → AllByRecursion PushesParts (take i effects) → PushesParts e → AllByRecursion PushesParts (take (i + 1) effects)
parts_more effects i e h k all parts =
    subst (λ (es : List Effect). AllByRecursion PushesParts es) (sym (take_more effects i e h ∙ ap (λ x. take i effects ++ x ∷ []) (sym k))) (all_one_more (take i effects) e all parts)
