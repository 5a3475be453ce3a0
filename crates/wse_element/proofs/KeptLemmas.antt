-- Each effect leaves records that have parts whose paths rise.
use Rattle.std.proofs.Common.{◌≡◌, ℕ, ◌+◌, Bool, true, false, ◌&&◌, cond, List, [], ◌∷◌, ◌++◌, map, refl, ◌∙◌}
use Rattle.std.specs.Prelude.{filter}
use Rattle.std.specs.List.{AllByRecursion}
use Rattle.std.specs.FinMap.{is_sorted}
use Rattle.std.specs.FinMap.Entries.{below_all}
use Rattle.std.specs.Ordering.{is_lt}
use Rattle.wse_path.specs.Path.{Path}
use Rattle.wse_path.specs.Order.{path_cmp}
use Rattle.wse_element.specs.declared.state.PartState.{PartState}
use Rattle.wse_element.specs.declared.state.PartState.TheVariants.{Live, Closed, Incompatible}
use Rattle.wse_element.specs.declared.effect.Effect.{Effect}
use Rattle.wse_element.specs.declared.effect.Effect.TheVariants.{Push, MoveBack, MoveForward, Split, Drop, Invalidate, Bump, Set}
use Rattle.wse_element.specs.Record.{RecordPart, Record, by_path, AreParts}
use Rattle.wse_element.specs.Live.{is_live_part_at, live_parts, has_live}
use Rattle.wse_element.specs.Stacks.{has_id}
use Rattle.wse_element.specs.Losses.{lost, part_lost_at, lost_at, future_lost_at, part_invalid_at, invalid_at}
use Rattle.wse_element.specs.Split.{pieces, split_one, split}
use Rattle.wse_element.specs.Effects.{marked_one, lost_for, records_after}
use Rattle.wse_element.proofs.PieceLemmas.{numbered_pieces}
use Rattle.wse_element.specs.Laws.{PushesParts}

-- the record has parts, and their paths rise
abbrev pub HasParts : Record → Type 0
HasParts r = AreParts r.parts

module _ (f : RecordPart → RecordPart) (same : (part : RecordPart) → (f part).path ≡ part.path) where
  below_map : (p : Path) (parts : List RecordPart) → below_all path_cmp p (by_path (map f parts)) ≡ below_all path_cmp p (by_path parts)
  below_map p [] = refl
  below_map p (part ∷ more) = λ i. is_lt (path_cmp p (same part i)) && below_map p more i

  sorted_map : (parts : List RecordPart) → is_sorted path_cmp (by_path (map f parts)) ≡ is_sorted path_cmp (by_path parts)
  sorted_map [] = refl
  sorted_map (part ∷ more) = (λ i. below_all path_cmp (same part i) (by_path (map f more)) && is_sorted path_cmp (by_path (map f more))) ∙ (λ i. below_map part.path more i && sorted_map more i)

  some_map : (parts : List RecordPart) → (parts ≡ [] → ⊥) → map f parts ≡ [] → ⊥
  some_map [] some e = some refl
  some_map (part ∷ more) some e = cc

  parts_map : (parts : List RecordPart) → AreParts parts → AreParts (map f parts)
  parts_map parts are = record { some = some_map parts are.some; rise = sorted_map parts ∙ are.rise }

lost_path : (q : Path) (state : PartState) (part : RecordPart) → (part_lost_at q state part).path ≡ part.path
lost_path q state part = elim (is_live_part_at q part) as (λ b. (cond b (lost state part) part).path ≡ part.path) [ true ↦ refl | false ↦ refl ]

invalid_path : (q : Path) (part : RecordPart) → (part_invalid_at q part).path ≡ part.path
invalid_path q part = elim (is_live_part_at q part) as (λ b. (cond b (record part { valid = false }) part).path ≡ part.path) [ true ↦ refl | false ↦ refl ]

pub parts_lost : (q : Path) (state : PartState) (parts : List RecordPart) → AreParts parts → AreParts (map (part_lost_at q state) parts)
parts_lost q state = parts_map (part_lost_at q state) (lost_path q state)

pub parts_invalid : (q : Path) (parts : List RecordPart) → AreParts parts → AreParts (map (part_invalid_at q) parts)
parts_invalid q = parts_map (part_invalid_at q) (invalid_path q)

-- ---- lists of such records

module _ (f : Record → Record) (keeps : (r : Record) → HasParts r → HasParts (f r)) where
  all_map : (records : List Record) → AllByRecursion HasParts records → AllByRecursion HasParts (map f records)
  all_map [] h = h
  all_map (r ∷ records) h = (keeps r h.0, all_map records h.1)

all_filter : (test : Record → Bool) (records : List Record) → AllByRecursion HasParts records → AllByRecursion HasParts (filter test records)
all_filter test [] h = h
all_filter test (r ∷ records) h =
    elim (test r) as (λ b. AllByRecursion HasParts (cond b (r ∷ filter test records) (filter test records))) [ true ↦ (h.0, all_filter test records h.1) | false ↦ all_filter test records h.1 ]

all_append : (xs ys : List Record) → AllByRecursion HasParts xs → AllByRecursion HasParts ys → AllByRecursion HasParts (xs ++ ys)
all_append [] ys h k = k
all_append (x ∷ xs) ys h k = (h.0, all_append xs ys h.1 k)

all_pieces : (r : Record) (parts : List RecordPart) (first : ℕ) → AllByRecursion HasParts (numbered_pieces r parts first)
all_pieces r [] first = tt
all_pieces r (part ∷ parts) first = (record { some = λ e. cc; rise = refl }, all_pieces r parts (first + 1))

all_split : (id first : ℕ) (records : List Record) → AllByRecursion HasParts records → AllByRecursion HasParts (split records id first)
all_split id first [] h = h
all_split id first (r ∷ records) h =
    all_append (split_one id first r) (split records id first)
    (elim (has_id id r) as (λ b. AllByRecursion HasParts (cond b (pieces r first) (r ∷ []))) [ true ↦ all_pieces r (live_parts r) first | false ↦ (h.0, tt) ])
    (all_split id first records h.1)

lost_keeps : (q : Path) (state : PartState) (r : Record) → HasParts r → HasParts (lost_at q state r)
lost_keeps q state r h = parts_lost q state r.parts h

dropped_keeps : (q : Path) (r : Record) → HasParts r → HasParts (future_lost_at q r)
dropped_keeps q r h = elim r.done as (λ b. HasParts (cond b r (lost_at q Incompatible r))) [ true ↦ h | false ↦ lost_keeps q Incompatible r h ]

marked_keeps : (id : ℕ) (done : Bool) (r : Record) → HasParts r → HasParts (marked_one id done r)
marked_keeps id done r h = elim (has_id id r) as (λ b. HasParts (cond b (record r { done = done }) r)) [ true ↦ h | false ↦ h ]

all_lost : (path : Path) (reason : PartState) (records : List Record) → AllByRecursion HasParts records → AllByRecursion HasParts (lost_for records path reason)
all_lost path Live records h = h
all_lost path Closed records h = all_filter has_live (map (lost_at path Closed) records) (all_map (lost_at path Closed) (lost_keeps path Closed) records h)
all_lost path Incompatible records h = all_filter has_live (map (future_lost_at path) records) (all_map (future_lost_at path) (dropped_keeps path) records h)

pub parts_after : (records : List Record) (effect : Effect) → AllByRecursion HasParts records → PushesParts effect → AllByRecursion HasParts (records_after records effect)
parts_after records (Push r) h parts = all_append records (r ∷ []) h (parts, tt)
parts_after records (MoveBack id) h parts = all_map (marked_one id false) (marked_keeps id false) records h
parts_after records (MoveForward id) h parts = all_map (marked_one id true) (marked_keeps id true) records h
parts_after records (Split id first) h parts = all_split id first records h
parts_after records (Drop path reason) h parts = all_lost path reason records h
parts_after records (Invalidate path) h parts = all_map (invalid_at path) (λ r k. parts_invalid path r.parts k) records h
parts_after records (Bump path by) h parts = h
parts_after records (Set path content) h parts = h
