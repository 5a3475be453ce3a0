-- What an undo or a redo does after a split, and what closing parts spells.
use Rattle.std.proofs.Common.{◌≡◌, inl, inr, ℕ, ◌+◌, ◌^◌, ◌≤◌, Bool, true, false, not, cond, ◌&&◌, List, [], ◌∷◌, map, length, Option, Some, None, is_some, refl, sym, ap, subst, ◌∙◌, arith}
use Rattle.std.specs.Prelude.{filter, find, flat_map, nat_le, sum_by}
use Rattle.std.specs.List.{list_any}
use Rattle.std.specs.Option.{option_map_or}
use Rattle.std.specs.Ordering.{eq_by_cmp}
use Rattle.std.proofs.lemmas.Bool.{or_left, or_right}
use Rattle.std.proofs.lemmas.List.{length-append}
use Rattle.std.proofs.lemmas.List.Sums.{sum_by-cons}
use Rattle.wse_path.specs.Path.{Path, text_of}
use Rattle.wse_path.specs.Order.{path_cmp}
use Rattle.wse_path.specs.declared.command.Choice.{Choice}
use Rattle.wse_path.specs.declared.command.Direction.{Direction}
use Rattle.wse_path.specs.declared.limits.Limits.{Limits}
use Rattle.wse_path.proofs.PathOrder.{same_path}
use Rattle.wse_locks.specs.Locks.{is_held}
use Rattle.wse_element.specs.declared.state.PartState.TheVariants.{Closed}
use Rattle.wse_element.specs.declared.effect.Effect.TheVariants.{Drop, Split}
use Rattle.wse_element.specs.Record.{RecordPart, Record}
use Rattle.wse_element.specs.Live.{is_live, is_live_part_at, live_part, is_live_at, is_valid_at}
use Rattle.wse_element.specs.Stacks.{record_of}
use Rattle.wse_element.specs.Split.{piece, split}
use Rattle.wse_element.specs.State.{State, stacks_of, kept_of}
use Rattle.wse_element.specs.Applicable.{may_come}
use Rattle.wse_element.specs.Weight.{part_weight, record_weight, weight}
use Rattle.wse_element.proofs.CloseLemmas.{In}
use Rattle.wse_element.proofs.ListLemmas.{find_passes}
use Rattle.wse_element.proofs.NumberLemmas.{bounded_parts}
use Rattle.wse_codec.specs.Spelling.{effect_bytes}
use Rattle.wse_rules.specs.Ruling.{closest, one_ruling, blocked, choice_for, ruling, ruling_of, across_ruling}
use Rattle.wse_rules.specs.declared.ruling.Cause.{Cause}
use Rattle.wse_rules.specs.declared.ruling.Cause.TheVariants as causes
use Rattle.wse_rules.specs.declared.ruling.Ruling.{Ruling}
use Rattle.wse_rules.specs.declared.ruling.Ruling.TheVariants as rulings
use Rattle.wse_history.specs.declared.answer.MoveEnd.TheVariants as ends
use Rattle.wse_history.specs.declared.answer.SplitNote.{SplitNote}
use Rattle.wse_history.specs.declared.asked.Asked.{Asked}
use Rattle.wse_history.specs.History.{IsHistory}
use Rattle.wse_history.specs.Moves.{Course, ruled as ruled_to, begun_course, split_outcome}
use Rattle.wse_history.specs.Moving.{closings, moved_outcome, closed_outcome, MayMove, MayClose}
use Rattle.wse_history.specs.Outcome.{Outcome}
use Rattle.wse_history.specs.Placed.{place, IsRuledSplit}
use Rattle.wse_history.proofs.AloneLemmas.{linked_split_state}
use Rattle.wse_history.proofs.FlushLemmas.{flushes_may, one_flush, across_flush}
use Rattle.wse_history.proofs.GoLemmas.{closest_stands, found_itself, splits_in, splits_may, SplitsIn}
use Rattle.wse_history.proofs.GoneLemmas.{gone_piece, piece_moves}
use Rattle.wse_history.proofs.MoveSpelled.{drop_text, text_in_part, closings_long}
use Rattle.wse_history.proofs.PlaceLemmas.{piece_closest}
use Rattle.wse_history.proofs.ShapeLemmas.{now, linked_now, positive_of, may_apply, serial_within, drops_come, split_drops_come, split_now}
use Rattle.wse_history.proofs.UndoLemmas.{piece_goes}
use Rattle.wse_history.proofs.Words.{AreLinked}

-- ---- lists of records

any_among : (test : Record → Bool) (r : Record) (xs : List Record) → In r xs → test r ≡ true → list_any test xs ≡ true
any_among test r [] there h = absurd there
any_among test r (x ∷ xs) there h = elim there [
  | inl here ↦ or_left (test x) (list_any test xs) (ap test (sym here) ∙ h)
  | inr later ↦ or_right (test x) (list_any test xs) (any_among test r xs later h)
]

weighs_among : (r : Record) (xs : List Record) → In r xs → record_weight r ≤ sum_by record_weight xs
weighs_among r [] there = absurd there
weighs_among r (x ∷ xs) there =
    let sums = sum_by-cons record_weight x xs in
    elim there [
      | inl here ↦ subst (λ (y : Record). record_weight y ≤ sum_by record_weight (x ∷ xs)) (sym here) (omega (arith, sums))
      | inr later ↦ let rest = weighs_among r xs later in omega (arith, sums, rest)
    ]

-- ---- closings are short

live_long : (p : Path) (label : List ℕ) (parts : List RecordPart) → is_some (find (is_live_part_at p) parts) ≡ true → length (text_of p) + 4 ≤ sum_by (part_weight label) parts
live_long p label [] h = cc
live_long p label (part ∷ parts) h =
    let sums = sum_by-cons (part_weight label) part parts in
    elim (eq_by_cmp path_cmp p part.path) as (λ e. eq_by_cmp path_cmp p part.path ≡ e → is_some (cond (e && is_live part.state) (Some part) (find (is_live_part_at p) parts)) ≡ true → length (text_of p) + 4 ≤ sum_by (part_weight label) (part ∷ parts)) [
      | true ↦ λ e _. subst (λ (q : Path). length (text_of q) + 4 ≤ sum_by (part_weight label) (part ∷ parts)) (sym (same_path p part.path e)) (omega (arith, sums, text_in_part label part))
      | false ↦ λ _ k. let rest = live_long p label parts k in omega (arith, sums, rest)
    ] refl h

one_long : (test : Path → Bool) (p : Path) → length (flat_map effect_bytes (closings (filter test (p ∷ [])))) ≤ length (text_of p) + 4
one_long test p = elim (test p) as (λ b. length (flat_map effect_bytes (closings (cond b (p ∷ []) []))) ≤ length (text_of p) + 4) [
  | true ↦ omega (arith, drop_text p, length-append (effect_bytes (Drop p Closed)) [])
  | false ↦ omega arith
]

below : (a b c : ℕ) → a ≤ b → b ≤ c → c ≤ 2 ^ 29 → a ≤ 2 ^ 30
below a b c g h k = omega (arith, g, h, k)

-- at a live path of a record
closing_short : (limits : Limits) (s : State) (test : Path → Bool) (p : Path) (r : Record) → IsHistory s limits → In r s.records → is_live_at p r ≡ true → length (flat_map effect_bytes (closings (filter test (p ∷ [])))) ≤ 2 ^ 30
closing_short limits s test p r set among live =
    below (length (flat_map effect_bytes (closings (filter test (p ∷ []))))) (length (text_of p) + 4) (weight s.records) (one_long test p)
    (less (length (text_of p) + 4) (record_weight r) (weight s.records) (live_long p r.label r.parts live) (weighs_among r s.records among)) (bounded_parts (stacks_of (kept_of s)) set.linked.kept.bounded).weight
  where
    less : (a b c : ℕ) → a ≤ b → b ≤ c → a ≤ c
    less a b c g h = omega (arith, g, h)

-- at all paths of a record
closings_short : (limits : Limits) (s : State) (test : Path → Bool) (r : Record) → IsHistory s limits → In r s.records → length (flat_map effect_bytes (closings (filter test (map (λ part. part.path) r.parts)))) ≤ 2 ^ 30
closings_short limits s test r set among =
    below (length (flat_map effect_bytes (closings (filter test (map (λ part. part.path) r.parts))))) (record_weight r) (weight s.records) (closings_long test r.label r.parts)
    (weighs_among r s.records among) (bounded_parts (stacks_of (kept_of s)) set.linked.kept.bounded).weight

flush_short : (limits : Limits) (s : State) (by : ℕ) (direction : Direction) (p : Path) (choice : Choice) (cause : Cause) (files dropped : List Path) (test : Path → Bool) (o : Option Record) → IsHistory s limits → closest direction s.records p ≡ o
    → option_map_or (ruling_of direction s.records s.locks by p choice) o rulings.Nothing ≡ rulings.Flush cause files dropped → length (flat_map effect_bytes (closings (filter test dropped))) ≤ 2 ^ 30
flush_short limits s by direction p choice cause files dropped test None set is go = cc
flush_short limits s by direction p choice cause files dropped test (Some r) set is go =
    let found = closest_stands direction s.records p r is in
    elim (nat_le 2 (length r.parts)) as (λ b. cond b (across_ruling (blocked direction s.records s.locks by r) (choice_for direction choice) r) (one_ruling s.locks by p r) ≡ rulings.Flush cause files dropped → length (flat_map effect_bytes (closings (filter test dropped))) ≤ 2 ^ 30) [
      | true ↦ λ k. subst (λ (ps : List Path). length (flat_map effect_bytes (closings (filter test ps))) ≤ 2 ^ 30) (across_flush (blocked direction s.records s.locks by r) (choice_for direction choice) r cause files dropped k) (closings_short limits s test r set found.among)
      | false ↦ λ k. subst (λ (ps : List Path). length (flat_map effect_bytes (closings (filter test ps))) ≤ 2 ^ 30) (one_flush s.locks by p r cause files dropped k) (closing_short limits s test p r set found.among found.live)
    ] go

-- ---- without a split

-- all live parts of what is ruled to be flushed may be closed
pub flush_closes : (limits : Limits) (s : State) (by : ℕ) (direction : Direction) (p : Path) (choice : Choice) (cause : Cause) (files dropped : List Path) (asked : ℕ) → IsHistory s limits → ruling direction s.records s.locks by p choice ≡ rulings.Flush cause files dropped
    → MayClose limits s (record { direction = direction; id = asked; split = None }) (filter (λ q. list_any (is_live_at q) s.records) dropped)
flush_closes limits s by direction p choice cause files dropped asked set go =
    let ps = filter (λ q. list_any (is_live_at q) s.records) dropped in
    record {
      short = flush_short limits s by direction p choice cause files dropped (λ q. list_any (is_live_at q) s.records) (closest direction s.records p) set refl go;
      may = λ some none. may_apply limits s (closings ps) set some (drops_come limits s ps set (serial_within limits s (closings ps) set none) (flushes_may direction (now s) s.locks by p choice cause files dropped (linked_now limits s set) go));
    }

-- ---- after a split

same_found : (o : Option Record) (r t : Record) → o ≡ Some r → o ≡ Some t → t ≡ r
same_found None r t h k = cc
same_found (Some x) r t h k = cc

piece_valid : (p : Path) (r : Record) (n : ℕ) (part : RecordPart) → live_part p r ≡ Some part → is_valid_at p (piece r n part) ≡ is_valid_at p r
piece_valid p r n part live =
    ap (λ b. option_map_or (λ (x : RecordPart). x.valid) (cond b (Some part) None) false) (find_passes (is_live_part_at p) r.parts part live)
    ∙ ap (λ (o : Option RecordPart). option_map_or (λ (x : RecordPart). x.valid) o false) (sym live)

module _ (limits : Limits) (s : State) (by : ℕ) (direction : Direction) (p : Path) (note : SplitNote) (set : IsHistory s limits) (split_ruled : IsRuledSplit s by direction p note)
    (r : Record) (found : record_of s.records note.id ≡ Some r) where
  all : AreLinked (now s)
  all = linked_now limits s set

  asked_split : SplitsIn direction (now s) p note.id
  asked_split = splits_in direction (now s) s.locks by p split_ruled.choice note.id note.cause note.files split_ruled.rules

  whole_is : asked_split.whole ≡ r
  whole_is =
      let stands = closest_stands direction s.records p asked_split.whole asked_split.is in
      same_found (record_of s.records note.id) r asked_split.whole found
      (ap (record_of s.records) (sym asked_split.same) ∙ found_itself s.records asked_split.whole all.linked.different stands.among)

  pub closest_is : closest direction s.records p ≡ Some r
  closest_is = asked_split.is ∙ ap Some whole_is

  id_is : r.id ≡ note.id
  id_is = ap (λ (x : Record). x.id) (sym whole_is) ∙ asked_split.same

  may : may_come (now s) (Split note.id s.next_id) ≡ true
  may = splits_may direction (now s) s.locks by p split_ruled.choice note.id note.cause note.files all split_ruled.rules

  linked : AreLinked (split_now s note.id)
  linked = linked_split_state (now s) note.id all (positive_of limits s set) may

  pub live_there : is_live_at p r ≡ true
  live_there = (closest_stands direction s.records p r closest_is).live

  -- what was asked for, and the course after the split
  abbrev asked : Asked
  asked = record { direction = direction; id = r.id; split = Some note }

  abbrev course : Course
  course = record { direction = direction; records = (split_now s note.id).records; effects = Split note.id s.next_id ∷ []; note = Some note; asked = option_map_or (λ r. r.id) (closest direction s.records p) 0 }

  asked_is : option_map_or (λ r. r.id) (closest direction s.records p) 0 ≡ r.id
  asked_is = ap (λ (o : Option Record). option_map_or (λ r. r.id) o 0) closest_is

  module _ (part : RecordPart) (live : live_part p r ≡ Some part) where
    abbrev number : ℕ
    number = s.next_id + place p r.parts

    abbrev made : Record
    made = piece r number part

    made_is : closest direction (split_now s note.id).records p ≡ Some made
    made_is = ap (λ id. closest direction (split s.records id s.next_id) p) (sym id_is) ∙ piece_closest direction (now s) p r s.next_id part all closest_is live

    made_live : list_any (is_live_at p) (split_now s note.id).records ≡ true
    made_live = let stands = closest_stands direction (split_now s note.id).records p made made_is in any_among (is_live_at p) made (split_now s note.id).records stands.among stands.live

    abbrev ruled_by : Option Record → Outcome
    ruled_by o = ruled_to limits s course (option_map_or (one_ruling s.locks by p) o rulings.Nothing)

    abbrev one_ruled : Bool → Bool → Ruling
    one_ruled valid held = cond (not valid) (rulings.Flush causes.Invalid (p ∷ []) (p ∷ [])) (cond held (rulings.Locked (p ∷ [])) (rulings.Go number))

    split_is : (valid held : Bool) → is_valid_at p r ≡ valid → is_held s.locks by p ≡ held → split_outcome limits s by p (begun_course s direction p) note ≡ ruled_to limits s course (one_ruled valid held)
    split_is valid held v h =
        ap ruled_by made_is ∙ (λ i. ruled_to limits s course (one_ruled ((piece_valid p r number part live ∙ v) i) (h i)))

    abbrev closed_at : ℕ → List Path → Outcome
    closed_at n paths = closed_outcome limits s (record { direction = direction; id = n; split = Some note }) paths (ends.Flushed causes.Invalid (p ∷ []) (p ∷ []))

    pub split_flushed : is_valid_at p r ≡ false → closed_outcome limits s asked (p ∷ []) (ends.Flushed causes.Invalid (p ∷ []) (p ∷ [])) ≡ split_outcome limits s by p (begun_course s direction p) note
    split_flushed v =
        (λ i. closed_at (sym asked_is i) (cond (sym made_live i) (p ∷ []) []))
        ∙ sym (split_is false (is_held s.locks by p) v refl)

    pub split_locked : is_valid_at p r ≡ true → is_held s.locks by p ≡ true → closed_outcome limits s asked [] (ends.Locked (p ∷ [])) ≡ split_outcome limits s by p (begun_course s direction p) note
    split_locked v h =
        ap (λ n. closed_outcome limits s (record { direction = direction; id = n; split = Some note }) [] (ends.Locked (p ∷ []))) (sym asked_is)
        ∙ sym (split_is true true v h)

    made_found : record_of (split_now s note.id).records number ≡ Some made
    made_found = let stands = closest_stands direction (split_now s note.id).records p made made_is in found_itself (split_now s note.id).records made linked.linked.different stands.among

    pub split_moved : is_valid_at p r ≡ true → is_held s.locks by p ≡ false → moved_outcome limits s asked number (part ∷ []) ≡ split_outcome limits s by p (begun_course s direction p) note
    split_moved v h =
        ap (λ n. moved_outcome limits s (record { direction = direction; id = n; split = Some note }) number (part ∷ [])) (sym asked_is)
        ∙ gone_piece limits s direction course.asked number note made made_found
        ∙ sym (split_is true false v h)

    made_goes : is_valid_at p r ≡ true → is_held s.locks by p ≡ false → one_ruling s.locks by p made ≡ rulings.Go number
    made_goes v h = λ i. one_ruled ((piece_valid p r number part live ∙ v) i) (h i)

    pub split_moves : is_valid_at p r ≡ true → is_held s.locks by p ≡ false → MayMove limits s asked number (part ∷ [])
    split_moves v h =
        piece_moves limits s direction r.id number made set note made_found linked may
        (piece_goes direction s by p split_ruled.choice note.id note.cause note.files made number all (positive_of limits s set) split_ruled.rules made_is (made_goes v h))

    pub split_closes : MayClose limits s asked (p ∷ [])
    split_closes =
        let effects = Split note.id s.next_id ∷ Drop p Closed ∷ [] in
        record {
          short = closing_short limits s (λ _. true) p r set (closest_stands direction s.records p r closest_is).among live_there;
          may = λ some none. may_apply limits s effects set some (split_drops_come limits s note.id (p ∷ []) set (serial_within limits s effects set none) may (made_live, tt));
        }

  pub split_alone : MayClose limits s asked []
  split_alone =
      let effects = Split note.id s.next_id ∷ [] in
      record {
        short = omega arith;
        may = λ some none. may_apply limits s effects set some (split_drops_come limits s note.id [] set (serial_within limits s effects set none) may tt);
      }
