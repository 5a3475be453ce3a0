-- Which of the pieces of a split is the closest at a path.
use Rattle.std.proofs.Common.{◌≡◌, ℕ, ◌+◌, ◌-◌, ◌<◌, ◌≤◌, Bool, true, false, ◌&&◌, not, cond, List, [], ◌∷◌, ◌++◌, length, take, drop, get_or, slice_get, Option, Some, None, is_some, refl, sym, ap, subst, ◌∙◌, arith}
use Rattle.std.specs.Prelude.{filter, find}
use Rattle.std.specs.List.{list_any, AllZip, AllByRecursion}
use Rattle.std.specs.FinMap.{is_sorted}
use Rattle.std.specs.FinMap.Entries.{below_all}
use Rattle.std.specs.Ordering.{eq_by_cmp}
use Rattle.std.proofs.lemmas.Bool.{or_parts, both_ways, eq-eqb}
use Rattle.std.proofs.lemmas.List.{length-drop, get_or-drop}
use Rattle.std.proofs.lemmas.List.Elements.{filter-append}
use Rattle.std.proofs.lemmas.Option.{slice_get_within, get_or_from_slice_get}
use Rattle.wse_path.specs.Path.{Path}
use Rattle.wse_path.specs.Order.{path_cmp}
use Rattle.wse_path.specs.declared.command.Direction.{Direction}
use Rattle.wse_path.specs.declared.command.Direction.TheVariants.{Back, Forward}
use Rattle.wse_path.proofs.EntryLemmas.{and_parts}
use Rattle.wse_path.proofs.PathOrder.{same_path}
use Rattle.wse_element.specs.Record.{RecordPart, Record, by_path, AreParts}
use Rattle.wse_element.specs.Live.{is_live, is_live_part_at, live_part, is_live_at}
use Rattle.wse_element.specs.Stacks.{live_at, past, future, has_id}
use Rattle.wse_element.specs.Split.{piece, pieces, split_one, split}
use Rattle.wse_element.specs.State.{StacksState}
use Rattle.wse_element.proofs.PastLemmas.{past-live_at, future-live_at}
use Rattle.wse_element.proofs.PieceLemmas.{numbered_pieces, none_behind_path}
use Rattle.wse_rules.specs.Ruling.{closest}
use Rattle.wse_history.specs.Placed.{place}
use Rattle.wse_history.proofs.AloneLemmas.{Both, both_last, both_first, second_of}
use Rattle.wse_history.proofs.Words.{AreLinked}

abbrev live_of : List RecordPart → List RecordPart
live_of parts = filter (λ part. is_live part.state) parts

abbrev piece_of : Record → ℕ → Option RecordPart → List Record
piece_of r id None = []
piece_of r id (Some part) = piece r id part ∷ []

-- pieces of parts that aren't at the path aren't live there
none_there : (p : Path) (r : Record) (parts : List RecordPart) (first : ℕ) → list_any (is_live_part_at p) parts ≡ false → live_at (numbered_pieces r (live_of parts) first) p ≡ []
none_there p r [] first h = refl
none_there p r (part ∷ more) first h =
    let both = or_parts (is_live_part_at p part) (list_any (is_live_part_at p) more) h in
    elim (is_live part.state) as (λ b. live_at (numbered_pieces r (cond b (part ∷ live_of more) (live_of more)) first) p ≡ []) [
      | true ↦ ap (λ b. cond (is_some (cond b (Some part) None)) (piece r first part ∷ live_at (numbered_pieces r (live_of more) (first + 1)) p) (live_at (numbered_pieces r (live_of more) (first + 1)) p)) both.0 ∙ none_there p r more (first + 1) both.1
      | false ↦ none_there p r more first both.1
    ]

plus_none : (n : ℕ) → n ≡ n + 0
plus_none n = omega arith

none_more : (n : ℕ) → n ≡ 0 + n
none_more n = omega arith

plus_one : (n m : ℕ) → n + 1 + m ≡ n + (1 + m)
plus_one n m = omega arith

-- just the piece of the record's live part at the path is live there, and its number counts the live parts before it
one_at : (p : Path) (r : Record) (parts : List RecordPart) (first : ℕ) → is_sorted path_cmp (by_path parts) ≡ true → live_at (numbered_pieces r (live_of parts) first) p ≡ piece_of r (first + place p parts) (find (is_live_part_at p) parts)
one_at p r [] first h = refl
one_at p r (part ∷ more) first h =
    let both = and_parts (below_all path_cmp part.path (by_path more)) (is_sorted path_cmp (by_path more)) h in
    let found = find (is_live_part_at p) more in
    elim (is_live part.state) as (λ l. is_live part.state ≡ l
    → live_at (numbered_pieces r (cond l (part ∷ live_of more) (live_of more)) first) p ≡ piece_of r (first + cond (eq_by_cmp path_cmp p part.path && l) 0 (cond l 1 0 + place p more)) (cond (eq_by_cmp path_cmp p part.path && l) (Some part) found)) [
      | true ↦ λ l.
          let rest = live_at (numbered_pieces r (live_of more) (first + 1)) p in
          elim (eq_by_cmp path_cmp p part.path) as (λ e. eq_by_cmp path_cmp p part.path ≡ e
          → cond (is_some (cond (e && is_live part.state) (Some part) None)) (piece r first part ∷ rest) rest ≡ piece_of r (first + cond (e && true) 0 (1 + place p more)) (cond (e && true) (Some part) found)) [
            | true ↦ λ e.
                let none : list_any (is_live_part_at p) more ≡ false = none_behind_path p more (ap (λ q. below_all path_cmp q (by_path more)) (same_path p part.path e) ∙ both.0) in
                ap (λ b. cond (is_some (cond b (Some part) None)) (piece r first part ∷ rest) rest) l
                ∙ ap (λ rs. piece r first part ∷ rs) (none_there p r more (first + 1) none)
                ∙ ap (λ n. piece r n part ∷ []) (plus_none first)
            | false ↦ λ e. one_at p r more (first + 1) both.1 ∙ ap (λ n. piece_of r n found) (plus_one first (place p more))
          ] refl
      | false ↦ λ l.
          elim (eq_by_cmp path_cmp p part.path) as (λ e. live_at (numbered_pieces r (live_of more) first) p ≡ piece_of r (first + cond (e && false) 0 (0 + place p more)) (cond (e && false) (Some part) found)) [
            | true ↦ one_at p r more first both.1 ∙ ap (λ n. piece_of r (first + n) found) (none_more (place p more))
            | false ↦ one_at p r more first both.1 ∙ ap (λ n. piece_of r (first + n) found) (none_more (place p more))
          ]
    ] refl

-- ---- the whole list

-- the second stands in the place of the first, and is its piece where the first is the one that is split
record PieceAt (p : Path) (id first : ℕ) (r s : Record) : Type 0 where
  done : s.done ≡ r.done
  is : (part : RecordPart) → has_id id r ≡ true → live_part p r ≡ Some part → s ≡ piece r (first + place p r.parts) part

some_same : (a b : RecordPart) → Some a ≡ Some b → a ≡ b
some_same a b e = cc

stays_at : (p : Path) (id first : ℕ) (r : Record) → has_id id r ≡ false → AllZip (PieceAt p id first) (live_at (r ∷ []) p) (live_at (r ∷ []) p)
stays_at p id first r other =
    elim (is_live_at p r) as (λ b. AllZip (PieceAt p id first) (cond b (r ∷ []) []) (cond b (r ∷ []) [])) [
      | true ↦ (record { done = refl; is = λ part h _. absurd (both_ways (has_id id r) other h) }, tt)
      | false ↦ tt
    ]

whole_at : (p : Path) (id first : ℕ) (r : Record) (o : Option RecordPart) → live_part p r ≡ o → AllZip (PieceAt p id first) (cond (is_some o) (r ∷ []) []) (piece_of r (first + place p r.parts) o)
whole_at p id first r None e = tt
whole_at p id first r (Some part) e = (record { done = refl; is = λ other _ f. ap (λ q. piece r (first + place p r.parts) q) (some_same part other (sym e ∙ f)) }, tt)

each_at : (p : Path) (id first : ℕ) (r : Record) → AreParts r.parts → AllZip (PieceAt p id first) (live_at (r ∷ []) p) (live_at (split_one id first r) p)
each_at p id first r are =
    elim (has_id id r) as (λ b. has_id id r ≡ b → AllZip (PieceAt p id first) (live_at (r ∷ []) p) (live_at (cond b (pieces r first) (r ∷ [])) p)) [
      | true ↦ λ e. subst (λ rs. AllZip (PieceAt p id first) (live_at (r ∷ []) p) rs) (sym (one_at p r r.parts first are.rise)) (whole_at p id first r (live_part p r) refl)
      | false ↦ λ e. stays_at p id first r e
    ] refl

zip_both : {X : Type 0} (R : X → X → Type 0) (xs ys us vs : List X) → AllZip R xs ys → AllZip R us vs → AllZip R (xs ++ us) (ys ++ vs)
zip_both R [] [] us vs h k = k
zip_both R [] (y ∷ ys) us vs h k = absurd h
zip_both R (x ∷ xs) [] us vs h k = absurd h
zip_both R (x ∷ xs) (y ∷ ys) us vs h k = (h.0, zip_both R xs ys us vs h.1 k)

zip_kept : {X : Type 0} (R : X → X → Type 0) (test : X → Bool) → ((x y : X) → R x y → test y ≡ test x) → (xs ys : List X) → AllZip R xs ys → AllZip R (filter test xs) (filter test ys)
zip_kept R test alike [] [] h = h
zip_kept R test alike [] (y ∷ ys) h = absurd h
zip_kept R test alike (x ∷ xs) [] h = absurd h
zip_kept R test alike (x ∷ xs) (y ∷ ys) h =
    let rest = zip_kept R test alike xs ys h.1 in
    subst (λ b. AllZip R (cond (test x) (x ∷ filter test xs) (filter test xs)) (cond b (y ∷ filter test ys) (filter test ys))) (sym (alike x y h.0))
    (elim (test x) as (λ b. AllZip R (cond b (x ∷ filter test xs) (filter test xs)) (cond b (y ∷ filter test ys) (filter test ys))) [ true ↦ (h.0, rest) | false ↦ rest ])

zip_as : {X : Type 0} (R : X → X → Type 0) (x y u v : List X) → x ≡ y → u ≡ v → AllZip R x u → AllZip R y v
zip_as R x y u v e f h = subst (λ z. AllZip R z v) e (subst (λ z. AllZip R x z) f h)

all_at : (records : List Record) (id first : ℕ) (p : Path) → AllByRecursion (λ r. AreParts r.parts) records → AllZip (PieceAt p id first) (live_at records p) (live_at (split records id first) p)
all_at [] id first p all = tt
all_at (r ∷ records) id first p all =
    zip_as (PieceAt p id first) (live_at (r ∷ []) p ++ live_at records p) (live_at (r ∷ records) p) (live_at (split_one id first r) p ++ live_at (split records id first) p) (live_at (split_one id first r ++ split records id first) p)
    (sym (filter-append (is_live_at p) (r ∷ []) records)) (sym (filter-append (is_live_at p) (split_one id first r) (split records id first)))
    (zip_both (PieceAt p id first) (live_at (r ∷ []) p) (live_at (split_one id first r) p) (live_at records p) (live_at (split records id first) p) (each_at p id first r all.0) (all_at records id first p all.1))

both_at : (direction : Direction) (records : List Record) (id first : ℕ) (p : Path) → AllByRecursion (λ r. AreParts r.parts) records → Both (PieceAt p id first) (closest direction records p) (closest direction (split records id first) p)
both_at Back records id first p all =
    both_last (PieceAt p id first) None None (past records p) (past (split records id first) p) tt
    (zip_as (PieceAt p id first) (filter (λ r. r.done) (live_at records p)) (past records p) (filter (λ r. r.done) (live_at (split records id first) p)) (past (split records id first) p) (sym (past-live_at records p)) (sym (past-live_at (split records id first) p))
    (zip_kept (PieceAt p id first) (λ r. r.done) (λ r s at. at.done) (live_at records p) (live_at (split records id first) p) (all_at records id first p all)))
both_at Forward records id first p all =
    both_first (PieceAt p id first) (future records p) (future (split records id first) p)
    (zip_as (PieceAt p id first) (filter (λ r. not r.done) (live_at records p)) (future records p) (filter (λ r. not r.done) (live_at (split records id first) p)) (future (split records id first) p) (sym (future-live_at records p)) (sym (future-live_at (split records id first) p))
    (zip_kept (PieceAt p id first) (λ r. not r.done) (λ r s at. ap not at.done) (live_at records p) (live_at (split records id first) p) (all_at records id first p all)))

-- the piece at the path is the closest there
pub piece_closest : (direction : Direction) (h : StacksState) (p : Path) (r : Record) (first : ℕ) (part : RecordPart) → AreLinked h → closest direction h.records p ≡ Some r → live_part p r ≡ Some part
    → closest direction (split h.records r.id first) p ≡ Some (piece r (first + place p r.parts) part)
piece_closest direction h p r first part all is live =
    let next = second_of (PieceAt p r.id first) r (closest direction h.records p) (closest direction (split h.records r.id first) p) is (both_at direction h.records r.id first p all.parts) in
    next.is ∙ ap Some (next.stands.is part (eq-eqb r.id r.id refl) live)

-- ---- its number and its part

-- no more live parts stand before the path's than there are parts
pub place_few : (p : Path) (parts : List RecordPart) → place p parts ≤ length parts
place_few p [] = omega arith
place_few p (part ∷ more) =
    let rest = place_few p more in
    elim (is_live_part_at p part) as (λ b. cond b 0 (cond (is_live part.state) 1 0 + place p more) ≤ length (part ∷ more)) [
      | true ↦ omega arith
      | false ↦ elim (is_live part.state) as (λ b. cond b 1 0 + place p more ≤ length (part ∷ more)) [
        | true ↦ omega (arith, rest)
        | false ↦ omega (arith, rest)
      ]
    ]

one_first : (ys : List RecordPart) (x : RecordPart) → 0 < length ys → get_or ys 0 x ≡ x → take 1 ys ≡ x ∷ []
one_first [] x some is = absurd (omega (arith, some))
one_first (y ∷ ys) x some is = ap (λ z. z ∷ []) is

one_more : (i : ℕ) → i + 1 - i ≡ 1
one_more i = omega arith

left : (i n m : ℕ) → m ≡ n - i → i < n → 0 < m
left i n m e h = omega (arith, e, h)

-- the list of the one part at the index
pub one_there : (parts : List RecordPart) (i : ℕ) (part : RecordPart) → slice_get parts i ≡ Some part → take (i + 1 - i) (drop i parts) ≡ part ∷ []
one_there parts i part is =
    ap (λ n. take n (drop i parts)) (one_more i)
    ∙ one_first (drop i parts) part (left i (length parts) (length (drop i parts)) (length-drop i parts) (slice_get_within parts i part is))
    (get_or-drop i parts 0 part ∙ ap (λ n. get_or parts n part) (sym (plus_none i)) ∙ get_or_from_slice_get parts i part part is)
