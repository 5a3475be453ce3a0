-- Only a new record raises the weight, and only a new record and a split take ids.
use Rattle.std.proofs.Common.{◌≡◌, ℕ, ◌+◌, ◌*◌, ◌^◌, ◌≤◌, Bool, true, false, cond, List, [], ◌∷◌, map, length, Option, Some, None, refl, subst, arith}
use Rattle.std.specs.Prelude.{filter, sum_by}
use Rattle.std.specs.Option.{option_map_or}
use Rattle.std.proofs.lemmas.List.Sums.{sum_by-cons, sum_by-append}
use Rattle.wse_path.specs.Path.{Path, text_of}
use Rattle.wse_element.specs.declared.state.PartState.{PartState}
use Rattle.wse_element.specs.declared.state.PartState.TheVariants.{Live, Closed, Incompatible}
use Rattle.wse_element.specs.declared.effect.Effect.{Effect}
use Rattle.wse_element.specs.declared.effect.Effect.TheVariants.{Push, MoveBack, MoveForward, Split, Drop, Invalidate, Bump, Set}
use Rattle.wse_element.specs.Content.{content_len, old_content, new_content}
use Rattle.wse_element.specs.Record.{RecordPart, Record}
use Rattle.wse_element.specs.Live.{is_live, is_live_part_at, has_live, live_parts}
use Rattle.wse_element.specs.Stacks.{has_id, record_of}
use Rattle.wse_element.specs.Losses.{lost, part_lost_at, lost_at, future_lost_at, dropped, flushed, part_invalid_at, invalid_at}
use Rattle.wse_element.specs.Split.{split_one, split, pieces}
use Rattle.wse_element.specs.Weight.{part_weight, record_weight, weight}
use Rattle.wse_element.specs.State.{StacksState}
use Rattle.wse_element.specs.Effects.{marked_one, marked, lost_for, records_after, ids_taken, after}
use Rattle.wse_element.specs.Laws.{BringsNone, OnlyPushesWeigh}
use Rattle.wse_element.proofs.PieceLemmas.{numbered_pieces}
use Rattle.wse_element.proofs.NumberLemmas.{no_more, less_than, less_sums, less_sum, Bounded}

-- ---- a drop

less_parts : (a b c : ℕ) → a + 0 + 0 ≤ a + b + c
less_parts a b c = omega arith

lighter_part : (label : List ℕ) (q : Path) (state : PartState) (part : RecordPart) → part_weight label (part_lost_at q state part) ≤ part_weight label part
lighter_part label q state part =
    elim (is_live_part_at q part) as (λ b. part_weight label (cond b (lost state part) part) ≤ part_weight label part) [
      | true ↦ less_parts (256 + length label + length (text_of part.path)) (content_len (old_content part.body)) (content_len (new_content part.body))
      | false ↦ no_more (part_weight label part)
    ]

lighter_parts : (label : List ℕ) (q : Path) (state : PartState) (parts : List RecordPart) → sum_by (part_weight label) (map (part_lost_at q state) parts) ≤ sum_by (part_weight label) parts
lighter_parts label q state [] = no_more 0
lighter_parts label q state (part ∷ more) =
    less_sums _ _ _ _ _ _ (sum_by-cons (part_weight label) (part_lost_at q state part) (map (part_lost_at q state) more)) (sum_by-cons (part_weight label) part more)
    (lighter_part label q state part) (lighter_parts label q state more)

lighter_record : (q : Path) (r : Record) → record_weight (future_lost_at q r) ≤ record_weight r
lighter_record q r = elim r.done as (λ b. record_weight (cond b r (lost_at q Incompatible r)) ≤ record_weight r) [ true ↦ no_more (record_weight r) | false ↦ lighter_parts r.label q Incompatible r.parts ]

lighter : (q : Path) (records : List Record) → weight (dropped records q) ≤ weight records
lighter q [] = no_more 0
lighter q (r ∷ records) =
    let rest = lighter q records in
    let all = sum_by-cons record_weight r records in
    elim (has_live (future_lost_at q r)) as (λ b. weight (cond b (future_lost_at q r ∷ dropped records q) (dropped records q)) ≤ weight (r ∷ records)) [
      | true ↦ less_sums _ _ _ _ _ _ (sum_by-cons record_weight (future_lost_at q r) (dropped records q)) all (lighter_record q r) rest
      | false ↦ less_sum _ _ (record_weight r) _ all rest
    ]

module _ {X : Type 0} (count : X → ℕ) where
  sum_map : (f : X → X) → ((x : X) → count (f x) ≤ count x) → (xs : List X) → sum_by count (map f xs) ≤ sum_by count xs
  sum_map f less [] = no_more 0
  sum_map f less (x ∷ xs) = less_sums _ _ _ _ _ _ (sum_by-cons count (f x) (map f xs)) (sum_by-cons count x xs) (less x) (sum_map f less xs)

  sum_filter : (kept : X → Bool) (xs : List X) → sum_by count (filter kept xs) ≤ sum_by count xs
  sum_filter kept [] = no_more 0
  sum_filter kept (x ∷ xs) =
      let rest = sum_filter kept xs in
      let all = sum_by-cons count x xs in
      elim (kept x) as (λ b. sum_by count (cond b (x ∷ filter kept xs) (filter kept xs)) ≤ sum_by count (x ∷ xs)) [
        | true ↦ less_sums _ _ _ _ _ _ (sum_by-cons count x (filter kept xs)) all (no_more (count x)) rest
        | false ↦ less_sum _ _ (count x) _ all rest
      ]

-- ---- each effect

fall_marked : (id : ℕ) (done : Bool) (records : List Record) → weight (marked records id done) ≤ weight records
fall_marked id done records =
    sum_map record_weight (marked_one id done) (λ r. elim (has_id id r) as (λ b. record_weight (cond b (record r { done = done }) r) ≤ record_weight r) [ true ↦ no_more (record_weight r) | false ↦ no_more (record_weight r) ]) records

fall_flushed : (q : Path) (records : List Record) → weight (flushed records q) ≤ weight records
fall_flushed q records =
    less_than _ _ _ (sum_filter record_weight has_live (map (lost_at q Closed) records)) (sum_map record_weight (lost_at q Closed) (λ r. lighter_parts r.label q Closed r.parts) records)

fall_invalid : (q : Path) (r : Record) → record_weight (invalid_at q r) ≤ record_weight r
fall_invalid q r =
    sum_map (part_weight r.label) (part_invalid_at q)
    (λ part. elim (is_live_part_at q part) as (λ b. part_weight r.label (cond b (record part { valid = false }) part) ≤ part_weight r.label part) [ true ↦ no_more (part_weight r.label part) | false ↦ no_more (part_weight r.label part) ])
    r.parts

-- pieces count for what their parts count for
fall_pieces : (r : Record) (parts : List RecordPart) (first : ℕ) → weight (numbered_pieces r parts first) ≤ sum_by (part_weight r.label) parts
fall_pieces r [] first = no_more 0
fall_pieces r (part ∷ parts) first =
    let one = sum_by-cons (part_weight r.label) part [] in
    let all = sum_by-cons (part_weight r.label) part parts in
    let now = sum_by-cons record_weight (record r { id = first; parts = part ∷ [] }) (numbered_pieces r parts (first + 1)) in
    let rest = fall_pieces r parts (first + 1) in
    omega (arith, one, all, now, rest)

fall_split_one : (id first : ℕ) (r : Record) → weight (split_one id first r) ≤ record_weight r
fall_split_one id first r =
    let alone = sum_by-cons record_weight r [] in
    elim (has_id id r) as (λ b. weight (cond b (pieces r first) (r ∷ [])) ≤ record_weight r) [
      | true ↦ less_than _ _ _ (fall_pieces r (live_parts r) first) (sum_filter (part_weight r.label) (λ part. is_live part.state) r.parts)
      | false ↦ omega (arith, alone)
    ]

fall_split : (id first : ℕ) (records : List Record) → weight (split records id first) ≤ weight records
fall_split id first [] = no_more 0
fall_split id first (r ∷ records) =
    less_sums _ _ _ _ _ _ (sum_by-append record_weight (split_one id first r) (split records id first)) (sum_by-cons record_weight r records) (fall_split_one id first r) (fall_split id first records)

fall_lost : (q : Path) (reason : PartState) (records : List Record) → weight (lost_for records q reason) ≤ weight records
fall_lost q Live records = no_more (weight records)
fall_lost q Closed records = fall_flushed q records
fall_lost q Incompatible records = lighter q records

weight_falls : (records : List Record) (e : Effect) → BringsNone e → weight (records_after records e) ≤ weight records
weight_falls records (Push r) none = absurd none
weight_falls records (MoveBack id) none = fall_marked id false records
weight_falls records (MoveForward id) none = fall_marked id true records
weight_falls records (Split id first) none = fall_split id first records
weight_falls records (Drop path reason) none = fall_lost path reason records
weight_falls records (Invalidate path) none = sum_map record_weight (invalid_at path) (fall_invalid path) records
weight_falls records (Bump path by) none = no_more (weight records)
weight_falls records (Set path content) none = no_more (weight records)

-- ---- ids

-- each part counts for 256 or more
parts_few : (label : List ℕ) (parts : List RecordPart) → 256 * length parts ≤ sum_by (part_weight label) parts
parts_few label [] = omega arith
parts_few label (part ∷ parts) = let all = sum_by-cons (part_weight label) part parts in omega (arith, all, parts_few label parts)

found_weight : (id : ℕ) (records : List Record) (o : Option Record) → record_of records id ≡ o → option_map_or record_weight o 0 ≤ weight records
found_weight id [] None e = no_more 0
found_weight id [] (Some r) e = cc
found_weight id (x ∷ records) o e =
    let all = sum_by-cons record_weight x records in
    elim (has_id id x) as (λ b. cond b (Some x) (record_of records id) ≡ o → option_map_or record_weight o 0 ≤ weight (x ∷ records)) [
      | true ↦ λ f. subst (λ (p : Option Record). option_map_or record_weight p 0 ≤ weight (x ∷ records)) f (omega (arith, all))
      | false ↦ λ f. less_sum _ _ (record_weight x) _ all (found_weight id records o f)
    ] e

live_few : (r : Record) → 256 * length (live_parts r) ≤ record_weight r
live_few r = less_than _ _ _ (parts_few r.label (live_parts r)) (sum_filter (part_weight r.label) (λ part. is_live part.state) r.parts)

split_few : (records : List Record) (o : Option Record) (w : ℕ) → option_map_or record_weight o 0 ≤ w → 256 * option_map_or (λ r. length (live_parts r)) o 0 ≤ w
split_few records None w less = omega arith
split_few records (Some r) w less = less_than _ _ _ (live_few r) less

-- an effect takes no more ids than a 256th of the weight
ids_few : (records : List Record) (e : Effect) → BringsNone e → 256 * ids_taken records e ≤ weight records
ids_few records (Push r) none = absurd none
ids_few records (MoveBack id) none = omega arith
ids_few records (MoveForward id) none = omega arith
ids_few records (Split id first) none = split_few records (record_of records id) (weight records) (found_weight id records (record_of records id) refl)
ids_few records (Drop path reason) none = omega arith
ids_few records (Invalidate path) none = omega arith
ids_few records (Bump path by) none = omega arith
ids_few records (Set path content) none = omega arith

pub numbers_fall : OnlyPushesWeigh
numbers_fall = record { falls = weight_falls; takes = ids_few }

-- so the bounds stay under each effect without a new record, where the next id has room for 2^21 more
few_more : (n top taken w : ℕ) → n + 2 ^ 21 ≤ top → 256 * taken ≤ w → w ≤ 2 ^ 29 → n + taken ≤ top
few_more n top taken w room few l = omega (arith, room, few, l)

some_more : (n taken : ℕ) → 1 ≤ n → 1 ≤ n + taken
some_more n taken l = omega (arith, l)

pub bounded_after : (h : StacksState) (e : Effect) → BringsNone e → h.next_id + 2 ^ 21 ≤ 1 + h.serial * 2 ^ 32 → Bounded h → Bounded (after h e)
bounded_after h e none room b = record {
  serial = b.serial;
  some = some_more h.next_id (ids_taken h.records e) b.some;
  ids = few_more h.next_id (1 + h.serial * 2 ^ 32) (ids_taken h.records e) (weight h.records) room (ids_few h.records e none) b.weight;
  weight = less_than _ _ _ (weight_falls h.records e none) b.weight;
}
