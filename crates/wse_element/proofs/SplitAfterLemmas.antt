-- A list of records that fit one another fits after a split.
use Rattle.std.proofs.Common.{◌≡◌, ℕ, ◌+◌, ◌<◌, ◌≤◌, Bool, true, false, ◌&&◌, ◌||◌, not, cond, eqb, ltb, List, [], ◌∷◌, ◌++◌, map, length, take, Some, refl, ap, subst, ◌∙◌, arith}
use Rattle.std.specs.Prelude.{filter, is_some}
use Rattle.std.specs.List.{list_any, list_all, AllByRecursion}
use Rattle.std.specs.Option.{option_map_or}
use Rattle.std.specs.Str.{bytes_eq}
use Rattle.std.specs.Cmp.Lexicographic.{pointwise}
use Rattle.std.proofs.lemmas.Bool.{and_from, or_parts, or_from, not-true, not_from_false, ltb-true, lt-ltb, le-ltb, ne_eqb, eqb-true}
use Rattle.wse_path.specs.Path.{Path, is_under}
use Rattle.wse_path.proofs.EntryLemmas.{and_parts}
use Rattle.wse_element.specs.Content.{old_content, new_content}
use Rattle.wse_element.specs.Record.{RecordPart, Record, AreParts}
use Rattle.wse_element.specs.Live.{is_live, live_parts, has_live}
use Rattle.wse_element.specs.Stacks.{ids, has_id, record_of}
use Rattle.wse_element.specs.Split.{piece, pieces, split_one, split}
use Rattle.wse_element.specs.Apart.{are_apart, is_apart}
use Rattle.wse_element.specs.Linked.{are_different, is_numbered, IsLinked}
use Rattle.wse_element.proofs.ListLemmas.{filter_passes, list_all_weaker, list_all-append, list_any-append}
use Rattle.wse_element.proofs.MoveLemmas.{none_behind}
use Rattle.wse_element.proofs.AfterLemmas.{numbers_of, numbered_from, numbered_more}
use Rattle.wse_element.proofs.PieceLemmas.{numbered_pieces, linked_split}

-- ---- ids

ids-append : (xs ys : List Record) → ids (xs ++ ys) ≡ ids xs ++ ids ys
ids-append [] ys = refl
ids-append (x ∷ xs) ys = ap (λ ns. x.id ∷ ns) (ids-append xs ys)

-- a smaller id is none of the pieces'
smaller_id : (k : ℕ) (r : Record) (parts : List RecordPart) (first : ℕ) → k < first → list_any (λ m. eqb m k) (ids (numbered_pieces r parts first)) ≡ false
smaller_id k r [] first l = refl
smaller_id k r (part ∷ more) first l =
    or_from (eqb first k) (list_any (λ m. eqb m k) (ids (numbered_pieces r more (first + 1)))) (ne_eqb first k (λ e. omega (arith, e, l))) (smaller_id k r more (first + 1) (omega (arith, l)))

-- a free id is none of those
free_of : (n : ℕ) (records : List Record) → list_all (λ r. ltb r.id n) records ≡ true → list_any (λ m. eqb m n) (ids records) ≡ false
free_of n [] h = refl
free_of n (r ∷ records) h =
    let parts = and_parts (ltb r.id n) (list_all (λ (x : Record). ltb x.id n) records) h in
    or_from (eqb r.id n) (list_any (λ m. eqb m n) (ids records)) (ne_eqb r.id n (λ e. omega (arith, e, ltb-true r.id n parts.0))) (free_of n records parts.1)

any_ids : (n : ℕ) (xs ys : List Record) → list_any (λ m. eqb m n) (ids xs) ≡ false → list_any (λ m. eqb m n) (ids ys) ≡ false → list_any (λ m. eqb m n) (ids (xs ++ ys)) ≡ false
any_ids n xs ys h k = ap (list_any (λ m. eqb m n)) (ids-append xs ys) ∙ list_any-append (λ m. eqb m n) (ids xs) (ids ys) h k

different_pieces : (r : Record) (parts : List RecordPart) (first : ℕ) (more : List Record) → are_different (ids more) ≡ true → list_all (λ s. ltb s.id first) more ≡ true → are_different (ids (numbered_pieces r parts first ++ more)) ≡ true
different_pieces r [] first more h below = h
different_pieces r (part ∷ parts) first more h below =
    let rest = numbered_pieces r parts (first + 1) ++ more in
    and_from (not (list_any (λ m. eqb m first) (ids rest))) (are_different (ids rest))
    (not_from_false (list_any (λ m. eqb m first) (ids rest)) (any_ids first (numbered_pieces r parts (first + 1)) more (smaller_id first r parts (first + 1) (omega arith)) (free_of first more below)))
    (different_pieces r parts (first + 1) more h (list_all_weaker (λ s. ltb s.id first) (λ s. ltb s.id (first + 1)) (λ s l. lt-ltb s.id (first + 1) (omega (arith, ltb-true s.id first l))) more below))

split_none : (id first : ℕ) (records : List Record) → list_any (has_id id) records ≡ false → split records id first ≡ records
split_none id first [] h = refl
split_none id first (r ∷ records) h =
    let parts = or_parts (has_id id r) (list_any (has_id id) records) h in
    λ i. ap (λ b. cond b (pieces r first) (r ∷ [])) parts.0 i ++ split_none id first records parts.1 i

-- a smaller id that wasn't there isn't there after the split
smaller_split : (k id first : ℕ) (records : List Record) → k < first → list_any (λ m. eqb m k) (ids records) ≡ false → list_any (λ m. eqb m k) (ids (split records id first)) ≡ false
smaller_split k id first [] l h = refl
smaller_split k id first (r ∷ records) l h =
    let parts = or_parts (eqb r.id k) (list_any (λ m. eqb m k) (ids records)) h in
    let rest = smaller_split k id first records l parts.1 in
    any_ids k (split_one id first r) (split records id first)
    (elim (has_id id r) as (λ b. list_any (λ m. eqb m k) (ids (cond b (pieces r first) (r ∷ []))) ≡ false) [ true ↦ smaller_id k r (live_parts r) first l | false ↦ or_from (eqb r.id k) false parts.0 refl ])
    rest

-- no record behind the one with the id has it
none_with : (id : ℕ) (r : Record) (records : List Record) → has_id id r ≡ true → list_any (λ m. eqb m r.id) (ids records) ≡ false → list_any (has_id id) records ≡ false
none_with id r records e none = subst (λ n. list_any (has_id n) records ≡ false) (eqb-true r.id id e) (none_behind r records none)

split_different : (id first : ℕ) (records : List Record) → are_different (ids records) ≡ true → list_all (λ r. ltb r.id first) records ≡ true → are_different (ids (split records id first)) ≡ true
split_different id first [] h below = refl
split_different id first (r ∷ records) h below =
    let parts = and_parts (not (list_any (λ m. eqb m r.id) (ids records))) (are_different (ids records)) h in
    let none = not-true (list_any (λ m. eqb m r.id) (ids records)) parts.0 in
    let lower = and_parts (ltb r.id first) (list_all (λ (x : Record). ltb x.id first) records) below in
    elim (has_id id r) as (λ b. has_id id r ≡ b → are_different (ids (cond b (pieces r first) (r ∷ []) ++ split records id first)) ≡ true) [
      | true ↦ λ e. ap (λ rs. are_different (ids (pieces r first ++ rs))) (split_none id first records (none_with id r records e none)) ∙ different_pieces r (live_parts r) first records parts.1 lower.1
      | false ↦ λ _.
          and_from (not (list_any (λ m. eqb m r.id) (ids (split records id first)))) (are_different (ids (split records id first)))
          (not_from_false (list_any (λ m. eqb m r.id) (ids (split records id first))) (smaller_split r.id id first records (ltb-true r.id first lower.0) none))
          (split_different id first records parts.1 lower.1)
    ] refl

-- ---- what each record passes

-- the pieces pass where the whole does, and the others pass too
split_all_from : (old test : Record → Bool) → ((r : Record) → old r ≡ true → test r ≡ true) → (id first : ℕ) (records : List Record) → are_different (ids records) ≡ true → list_all old records ≡ true → ((r : Record) → record_of records id ≡ Some r → old r ≡ true → list_all test (pieces r first) ≡ true) → list_all test (split records id first) ≡ true
split_all_from old test so id first [] h all one = refl
split_all_from old test so id first (r ∷ records) h all one =
    let parts = and_parts (not (list_any (λ m. eqb m r.id) (ids records))) (are_different (ids records)) h in
    let none = not-true (list_any (λ m. eqb m r.id) (ids records)) parts.0 in
    let tested = and_parts (old r) (list_all old records) all in
    elim (has_id id r) as (λ b. has_id id r ≡ b → ((s : Record) → cond b (Some r) (record_of records id) ≡ Some s → old s ≡ true → list_all test (pieces s first) ≡ true) → list_all test (cond b (pieces r first) (r ∷ []) ++ split records id first) ≡ true) [
      | true ↦ λ e f. ap (λ rs. list_all test (pieces r first ++ rs)) (split_none id first records (none_with id r records e none)) ∙ list_all-append test (pieces r first) records (f r refl tested.0) (list_all_weaker old test so records tested.1)
      | false ↦ λ _ f. and_from (test r) (list_all test (split records id first)) (so r tested.0) (split_all_from old test so id first records parts.1 tested.1 f)
    ] refl one

split_all : (test : Record → Bool) (id first : ℕ) (records : List Record) → are_different (ids records) ≡ true → list_all test records ≡ true → ((r : Record) → record_of records id ≡ Some r → test r ≡ true → list_all test (pieces r first) ≡ true) → list_all test (split records id first) ≡ true
split_all test id first records h all one = split_all_from test test (λ r t. t) id first records h all one

pieces_numbered : (r : Record) (parts : List RecordPart) (first last : ℕ) → 0 < first → first + length parts ≤ last → 0 < r.origin → r.origin < last → list_all (is_numbered last) (numbered_pieces r parts first) ≡ true
pieces_numbered r [] first last some fits origin known = refl
pieces_numbered r (part ∷ parts) first last some fits origin known =
    and_from (is_numbered last (piece r first part)) (list_all (is_numbered last) (numbered_pieces r parts (first + 1)))
    (numbered_from last (piece r first part) (record { some = some; taken = omega (arith, fits); origin = origin; known = known }))
    (pieces_numbered r parts (first + 1) last (omega arith) (omega (arith, fits)) origin known)

pieces_live : (r : Record) (parts : List RecordPart) (first : ℕ) → list_all (λ part. is_live part.state) parts ≡ true → list_all has_live (numbered_pieces r parts first) ≡ true
pieces_live r [] first h = refl
pieces_live r (part ∷ parts) first h =
    let both = and_parts (is_live part.state) (list_all (λ (x : RecordPart). is_live x.state) parts) h in
    and_from (has_live (piece r first part)) (list_all has_live (numbered_pieces r parts (first + 1))) (ap (λ b. b || false) both.0) (pieces_live r parts (first + 1) both.1)

-- no path is under itself
pub not_under_itself : (p : Path) → is_under p p ≡ false
not_under_itself p = ap (λ b. b && pointwise bytes_eq p (take (length p) p)) (le-ltb (length p) (length p) (omega arith))

apart_alone : (p : Path) → are_apart (p ∷ []) ≡ true
apart_alone p = ap (λ b. not (b || false) && true) (not_under_itself p)

apart_new : (part : RecordPart) → are_apart (map (λ (x : RecordPart). x.path) (cond (is_some (new_content part.body)) (part ∷ []) [])) ≡ true
apart_new part = elim (is_some (new_content part.body)) as (λ n. are_apart (map (λ (x : RecordPart). x.path) (cond n (part ∷ []) [])) ≡ true) [ true ↦ apart_alone part.path | false ↦ refl ]

apart_piece : (r : Record) (id : ℕ) (part : RecordPart) → is_apart (piece r id part) ≡ true
apart_piece r id part =
    elim (is_live part.state) as (λ l. (are_apart (map (λ (x : RecordPart). x.path) (filter (λ (x : RecordPart). is_some (old_content x.body)) (cond l (part ∷ []) []))) && are_apart (map (λ (x : RecordPart). x.path) (filter (λ (x : RecordPart). is_some (new_content x.body)) (cond l (part ∷ []) [])))) ≡ true) [
      | true ↦
          elim (is_some (old_content part.body)) as (λ o. (are_apart (map (λ (x : RecordPart). x.path) (cond o (part ∷ []) [])) && are_apart (map (λ (x : RecordPart). x.path) (cond (is_some (new_content part.body)) (part ∷ []) []))) ≡ true) [
            | true ↦ λ i. apart_alone part.path i && apart_new part i
            | false ↦ apart_new part
          ]
      | false ↦ refl
    ]

pieces_apart : (r : Record) (parts : List RecordPart) (first : ℕ) → list_all is_apart (numbered_pieces r parts first) ≡ true
pieces_apart r [] first = refl
pieces_apart r (part ∷ parts) first = and_from (is_apart (piece r first part)) (list_all is_apart (numbered_pieces r parts (first + 1))) (apart_piece r first part) (pieces_apart r parts (first + 1))

-- ---- the whole list

abbrev taken_by : List Record → ℕ → ℕ
taken_by records id = option_map_or (λ r. length (live_parts r)) (record_of records id) 0

below_next : (next_id : ℕ) (r : Record) → is_numbered next_id r ≡ true → ltb r.id next_id ≡ true
below_next next_id r h = lt-ltb r.id next_id (numbers_of next_id r h).taken

numbers_after : (next_id id : ℕ) (records : List Record) → 0 < next_id → IsLinked next_id records → (r : Record) → record_of records id ≡ Some r → is_numbered next_id r ≡ true → list_all (is_numbered (next_id + taken_by records id)) (pieces r next_id) ≡ true
numbers_after next_id id records positive linked r is h =
    let has = numbers_of next_id r h in
    let count : taken_by records id ≡ length (live_parts r) = ap (λ o. option_map_or (λ (x : Record). length (live_parts x)) o 0) is in
    pieces_numbered r (live_parts r) next_id (next_id + taken_by records id) positive (omega (arith, count)) has.origin (omega (arith, has.known))

pub IsLinked-split : (next_id id : ℕ) (records : List Record) → 0 < next_id → AllByRecursion (λ r. AreParts r.parts) records → IsLinked next_id records → IsLinked (next_id + taken_by records id) (split records id next_id)
IsLinked-split next_id id records positive all linked =
    let last = next_id + taken_by records id in
    record {
      different = split_different id next_id records linked.different (list_all_weaker (is_numbered next_id) (λ r. ltb r.id next_id) (below_next next_id) records linked.numbered);
      numbered = split_all_from (is_numbered next_id) (is_numbered last) (numbered_more next_id (taken_by records id)) id next_id records linked.different linked.numbered (numbers_after next_id id records positive linked);
      live = split_all has_live id next_id records linked.different linked.live (λ r _ _. pieces_live r (live_parts r) next_id (filter_passes (λ part. is_live part.state) r.parts));
      apart = split_all is_apart id next_id records linked.different linked.apart (λ r _ _. pieces_apart r (live_parts r) next_id);
      each = λ p. linked_split records id next_id p all (linked.each p);
    }
