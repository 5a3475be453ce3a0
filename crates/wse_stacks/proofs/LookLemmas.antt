-- The history of a path looks the same after effects that don't touch it.
use Rattle.std.proofs.Common.{◌≡◌, ℕ, Bool, true, false, ◌&&◌, ◌||◌, not, cond, List, [], ◌∷◌, ◌++◌, map, Option, Some, None, refl, sym, ap, subst, ◌∙◌}
use Rattle.std.specs.Prelude.{filter, find, is_some}
use Rattle.std.specs.List.{list_any, AllZip}
use Rattle.std.specs.Option.{option_map_or}
use Rattle.std.specs.Ordering.{eq_by_cmp}
use Rattle.std.proofs.lemmas.Bool.{or_parts}
use Rattle.wse_path.specs.Path.{Path}
use Rattle.wse_path.specs.Order.{path_cmp, is_named}
use Rattle.wse_element.specs.declared.state.PartState.{PartState}
use Rattle.wse_element.specs.declared.state.PartState.TheVariants.{Live, Closed, Incompatible}
use Rattle.wse_element.specs.declared.effect.Effect.{Effect}
use Rattle.wse_element.specs.declared.effect.Effect.TheVariants.{Push, MoveBack, MoveForward, Split, Drop, Invalidate, Bump, Set}
use Rattle.wse_element.specs.Record.{RecordPart, Record}
use Rattle.wse_element.specs.Live.{is_live, is_live_part_at, live_part, is_live_at}
use Rattle.wse_element.specs.Stacks.{live_at, past, future, ids, has_id, record_of}
use Rattle.wse_element.specs.Losses.{lost_at, future_lost_at, invalid_at, flushed, dropped, invalidated}
use Rattle.wse_element.specs.Split.{split}
use Rattle.wse_element.specs.Effects.{marked, lost_for, records_after}
use Rattle.wse_element.specs.Linked.{are_different}
use Rattle.wse_element.proofs.ListLemmas.{find-any}
use Rattle.wse_element.proofs.LiveLemmas.{live_part-lost_at_other, live_part-invalid_at_other}
use Rattle.wse_element.proofs.PastLemmas.{past-live_at, future-live_at, past_push, future_push, past_flushed_other, future_flushed_other, past_dropped, future_dropped_other, past_invalidated, future_invalidated}
use Rattle.wse_element.proofs.MoveLemmas.{past_marked_other, future_marked_other}
use Rattle.wse_element.proofs.PieceLemmas.{StandsIn, past_split, future_split}
use Rattle.wse_element.proofs.AfterLemmas.{none_else}
use Rattle.wse_stacks.specs.Stacks.{HaveParts}
use Rattle.wse_stacks.specs.Turns.{seen, look}
use Rattle.wse_stacks.specs.Draft.{DraftState, next_draft, next_drafts, first_stop, paths_of, touched_by}
use Rattle.wse_element.specs.Laws.{PushesParts}
use Rattle.wse_stacks.proofs.DraftLemmas.{IsKept, goes_on, kept_next}
use Rattle.std.specs.List.{AllByRecursion}

-- ---- what is seen

looks : (old new : List Record) (p : Path) → seen p (past new p) ≡ seen p (past old p) → seen p (future new p) ≡ seen p (future old p) → look new p ≡ look old p
looks old new p one two = λ i. record { past = one i; future = two i }

same_look : (old new : List Record) (p : Path) → past new p ≡ past old p → future new p ≡ future old p → look new p ≡ look old p
same_look old new p one two = looks old new p (ap (seen p) one) (ap (seen p) two)

module _ (p : Path) (f : Record → Record) (id : (r : Record) → (f r).id ≡ r.id) (part : (r : Record) → live_part p (f r) ≡ live_part p r) where
  seen_map : (records : List Record) → seen p (map f records) ≡ seen p records
  seen_map [] = refl
  seen_map (r ∷ records) = λ i. (id r i, option_map_or (λ (x : RecordPart). x.valid) (part r i) false) ∷ seen_map records i

-- ---- paths

away_parts : (p : Path) (parts : List RecordPart) → is_named (map (λ part. part.path) parts) p ≡ false → list_any (is_live_part_at p) parts ≡ false
away_parts p [] h = refl
away_parts p (part ∷ parts) h =
    let both = or_parts (eq_by_cmp path_cmp p part.path) (is_named (map (λ (x : RecordPart). x.path) parts) p) h in
    ap (λ b. (b && is_live part.state) || list_any (is_live_part_at p) parts) both.0 ∙ away_parts p parts both.1

away : (p : Path) (r : Record) → is_named (paths_of r) p ≡ false → is_live_at p r ≡ false
away p r h = find-any (is_live_part_at p) r.parts ∙ away_parts p r.parts h

append_none : {X : Type 0} (xs : List X) → xs ++ [] ≡ xs
append_none [] = refl
append_none (x ∷ xs) = ap (λ ys. x ∷ ys) (append_none xs)

and_false : (b : Bool) → (b && false) ≡ false
and_false true = refl
and_false false = refl

-- ---- each effect

look_pushed : (records : List Record) (r : Record) (p : Path) → is_live_at p r ≡ false → look (records ++ r ∷ []) p ≡ look records p
look_pushed records r p h =
    let one = λ (b : Bool) (xs : List Record). ap (λ c. xs ++ cond (b && c) (r ∷ []) []) h ∙ ap (λ c. xs ++ cond c (r ∷ []) []) (and_false b) ∙ append_none xs in
    same_look records (records ++ r ∷ []) p (past_push records r p ∙ one r.done (past records p)) (future_push records r p ∙ one (not r.done) (future records p))

find_none : {X : Type 0} (test : X → Bool) (xs : List X) → find test xs ≡ None → list_any test xs ≡ false
find_none test xs h = sym (find-any test xs) ∙ ap is_some h

any_kept : (test kept : Record → Bool) (records : List Record) → list_any test records ≡ false → list_any test (filter kept records) ≡ false
any_kept test kept [] h = refl
any_kept test kept (r ∷ records) h =
    let both = or_parts (test r) (list_any test records) h in
    let rest = any_kept test kept records both.1 in
    elim (kept r) as (λ b. list_any test (cond b (r ∷ filter kept records) (filter kept records)) ≡ false) [ true ↦ ap (λ b. b || list_any test (filter kept records)) both.0 ∙ rest | false ↦ rest ]

-- a record with the id isn't live at the path
absent : (records : List Record) (id : ℕ) (p : Path) (o : Option Record) → record_of records id ≡ o → is_named (option_map_or paths_of o []) p ≡ false → are_different (ids records) ≡ true → list_any (has_id id) (live_at records p) ≡ false
absent records id p None is h different = any_kept (has_id id) (is_live_at p) records (find_none (has_id id) records is)
absent records id p (Some r) is h different = none_else records id r p is different (away p r h)

look_marked : (records : List Record) (id : ℕ) (done : Bool) (p : Path) → list_any (has_id id) (live_at records p) ≡ false → look (marked records id done) p ≡ look records p
look_marked records id done p none = same_look records (marked records id done) p (past_marked_other records id done p none) (future_marked_other records id done p none)

stand_in : (p : Path) (id : ℕ) (xs ys : List Record) → list_any (has_id id) xs ≡ false → AllZip (StandsIn p id) xs ys → ys ≡ xs
stand_in p id [] [] h all = refl
stand_in p id [] (y ∷ ys) h all = absurd all
stand_in p id (x ∷ xs) [] h all = absurd all
stand_in p id (x ∷ xs) (y ∷ ys) h all =
    let both = or_parts (has_id id x) (list_any (has_id id) xs) h in
    λ i. all.0.itself both.0 i ∷ stand_in p id xs ys both.1 all.1 i

look_split : (records : List Record) (id first : ℕ) (p : Path) → HaveParts records → list_any (has_id id) (live_at records p) ≡ false → look (split records id first) p ≡ look records p
look_split records id first p parts none =
    let gone = subst (λ (xs : List Record). list_any (has_id id) xs ≡ false) (sym (past-live_at records p)) (any_kept (has_id id) (λ r. r.done) (live_at records p) none) in
    let back = subst (λ (xs : List Record). list_any (has_id id) xs ≡ false) (sym (future-live_at records p)) (any_kept (has_id id) (λ r. not r.done) (live_at records p) none) in
    same_look records (split records id first) p
    (stand_in p id (past records p) (past (split records id first) p) gone (past_split records id first p parts))
    (stand_in p id (future records p) (future (split records id first) p) back (future_split records id first p parts))

future_id : (q : Path) (r : Record) → (future_lost_at q r).id ≡ r.id
future_id q r = elim r.done as (λ b. (cond b r (lost_at q Incompatible r)).id ≡ r.id) [ true ↦ refl | false ↦ refl ]

future_part : (p q : Path) (r : Record) → eq_by_cmp path_cmp p q ≡ false → live_part p (future_lost_at q r) ≡ live_part p r
future_part p q r other = elim r.done as (λ b. live_part p (cond b r (lost_at q Incompatible r)) ≡ live_part p r) [ true ↦ refl | false ↦ live_part-lost_at_other p q Incompatible r other refl ]

look_lost : (records : List Record) (q : Path) (reason : PartState) (p : Path) → eq_by_cmp path_cmp p q ≡ false → look (lost_for records q reason) p ≡ look records p
look_lost records q Live p other = refl
look_lost records q Closed p other =
    let same = seen_map p (lost_at q Closed) (λ r. refl) (λ r. live_part-lost_at_other p q Closed r other refl) in
    looks records (flushed records q) p
    (ap (seen p) (past_flushed_other records q p other) ∙ same (past records p))
    (ap (seen p) (future_flushed_other records q p other) ∙ same (future records p))
look_lost records q Incompatible p other =
    let same = seen_map p (future_lost_at q) (future_id q) (λ r. future_part p q r other) in
    looks records (dropped records q) p
    (ap (seen p) (past_dropped records q p))
    (ap (seen p) (future_dropped_other records q p other) ∙ same (future records p))

look_invalid : (records : List Record) (q p : Path) → eq_by_cmp path_cmp p q ≡ false → look (invalidated records q) p ≡ look records p
look_invalid records q p other =
    let same = seen_map p (invalid_at q) (λ r. refl) (λ r. live_part-invalid_at_other p q r other) in
    looks records (invalidated records q) p
    (ap (seen p) (past_invalidated records q p) ∙ same (past records p))
    (ap (seen p) (future_invalidated records q p) ∙ same (future records p))

only_one : (p q : Path) → is_named (q ∷ []) p ≡ false → eq_by_cmp path_cmp p q ≡ false
only_one p q h = (or_parts (eq_by_cmp path_cmp p q) false h).0

look_after : (records : List Record) (effect : Effect) (p : Path) → HaveParts records → are_different (ids records) ≡ true → is_named (touched_by records effect) p ≡ false → look (records_after records effect) p ≡ look records p
look_after records (Push r) p parts different h = look_pushed records r p (away p r h)
look_after records (MoveBack id) p parts different h = look_marked records id false p (absent records id p (record_of records id) refl h different)
look_after records (MoveForward id) p parts different h = look_marked records id true p (absent records id p (record_of records id) refl h different)
look_after records (Split id first) p parts different h = look_split records id first p parts (absent records id p (record_of records id) refl h different)
look_after records (Drop q reason) p parts different h = look_lost records q reason p (only_one p q h)
look_after records (Invalidate q) p parts different h = look_invalid records q p (only_one p q h)
look_after records (Bump q by) p parts different h = refl
look_after records (Set q content) p parts different h = refl

-- ---- all of a list

any_front : (p : Path) (xs ys : List Path) → is_named (xs ++ ys) p ≡ false → is_named xs p ≡ false
any_front p [] ys h = refl
any_front p (x ∷ xs) ys h =
    let both = or_parts (eq_by_cmp path_cmp p x) (is_named (xs ++ ys) p) h in
    ap (λ b. b || is_named xs p) both.0 ∙ any_front p xs ys both.1

any_back : (p : Path) (xs ys : List Path) → is_named (xs ++ ys) p ≡ false → is_named ys p ≡ false
any_back p [] ys h = h
any_back p (x ∷ xs) ys h = any_back p xs ys (or_parts (eq_by_cmp path_cmp p x) (is_named (xs ++ ys) p) h).1

still_named : (d : DraftState) (effects : List Effect) (p : Path) → is_named (next_drafts d effects).touched p ≡ false → is_named d.touched p ≡ false
still_named d [] p h = h
still_named d (effect ∷ more) p h = any_front p d.touched (touched_by d.state.records effect) (still_named (next_draft d effect) more p h)

pub look_each : (d : DraftState) (effects : List Effect) (p : Path) → AllByRecursion PushesParts effects → first_stop d effects ≡ None → IsKept d.state → is_named (next_drafts d effects).touched p ≡ false → look (next_drafts d effects).state.records p ≡ look d.state.records p
look_each d [] p parts h kept none = refl
look_each d (effect ∷ more) p parts h kept none =
    let goes = goes_on d effect more h in
    look_each (next_draft d effect) more p parts.1 goes.on (kept_next d effect parts.0 goes.here kept) none
    ∙ look_after d.state.records effect p kept.parts kept.linked.different (any_back p d.touched (touched_by d.state.records effect) (still_named (next_draft d effect) more p none))
