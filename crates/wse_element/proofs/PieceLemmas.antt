-- Records that fit one another fit after a split: each piece stands where the whole stood.
use Rattle.std.proofs.Common.{◌≡◌, ℕ, ◌+◌, Bool, true, false, ◌&&◌, not, cond, List, [], ◌∷◌, ◌++◌, map, length, Option, Some, None, refl, sym, ap, subst, ◌∙◌}
use Rattle.std.specs.Prelude.{filter, find, is_some, nat_le}
use Rattle.std.specs.List.{list_any, enumerate_from, AllZip, AllByRecursion}
use Rattle.std.specs.FinMap.{is_sorted}
use Rattle.std.specs.FinMap.Entries.{below_all}
use Rattle.std.specs.Ordering.{eq_by_cmp, is_lt, is_eq}
use Rattle.std.proofs.lemmas.Bool.{or_parts, or_from, both_ways}
use Rattle.std.proofs.lemmas.List.Elements.{filter-append}
use Rattle.wse_path.specs.Path.{Path}
use Rattle.wse_path.specs.Order.{path_cmp}
use Rattle.wse_path.proofs.EntryLemmas.{and_parts, less_so}
use Rattle.wse_path.proofs.PathOrder.{same_path}
use Rattle.wse_element.specs.Record.{RecordPart, Record, by_path, AreParts}
use Rattle.wse_element.specs.Live.{is_live, is_live_part_at, live_part, is_live_at}
use Rattle.wse_element.specs.Stacks.{live_at, past, future, has_id}
use Rattle.wse_element.specs.Split.{piece, pieces, split_one, split}
use Rattle.wse_element.specs.Linked.{IsLinkedAt}
use Rattle.wse_element.proofs.ListLemmas.{find_passes}
use Rattle.wse_element.proofs.PastLemmas.{past-live_at, future-live_at}
use Rattle.wse_element.proofs.AlikeLemmas.{SameAt, linked_alike}

-- the pieces that these live parts make, from this id on
abbrev pub numbered_pieces : Record → List RecordPart → ℕ → List Record
numbered_pieces r parts first = map (λ numbered. piece r numbered.0 numbered.1) (enumerate_from first parts)

abbrev live_of : List RecordPart → List RecordPart
live_of parts = filter (λ part. is_live part.state) parts

-- no part of a list behind the path is at it
pub none_behind_path : (p : Path) (parts : List RecordPart) → below_all path_cmp p (by_path parts) ≡ true → list_any (is_live_part_at p) parts ≡ false
none_behind_path p [] h = refl
none_behind_path p (part ∷ more) h =
    let both = and_parts (is_lt (path_cmp p part.path)) (below_all path_cmp p (by_path more)) h in
    or_from (is_live_part_at p part) (list_any (is_live_part_at p) more) (ap (λ o. is_eq o && is_live part.state) (less_so (path_cmp p part.path) both.0)) (none_behind_path p more both.1)

-- pieces of parts that aren't at the path aren't live there
none_there : (p : Path) (r : Record) (parts : List RecordPart) (first : ℕ) → list_any (is_live_part_at p) parts ≡ false → live_at (numbered_pieces r (live_of parts) first) p ≡ []
none_there p r [] first h = refl
none_there p r (part ∷ more) first h =
    let both = or_parts (is_live_part_at p part) (list_any (is_live_part_at p) more) h in
    elim (is_live part.state) as (λ b. live_at (numbered_pieces r (cond b (part ∷ live_of more) (live_of more)) first) p ≡ []) [
      | true ↦ ap (λ b. cond (is_some (cond b (Some part) None)) (piece r first part ∷ live_at (numbered_pieces r (live_of more) (first + 1)) p) (live_at (numbered_pieces r (live_of more) (first + 1)) p)) both.0 ∙ none_there p r more (first + 1) both.1
      | false ↦ none_there p r more first both.1
    ]

abbrev piece_of : Record → ℕ → Option RecordPart → List Record
piece_of r id None = []
piece_of r id (Some part) = piece r id part ∷ []

-- just the piece of the record's live part at the path is live there
pub one_piece : (p : Path) (r : Record) (parts : List RecordPart) (first : ℕ) → is_sorted path_cmp (by_path parts) ≡ true → record { id : ℕ; is : live_at (numbered_pieces r (live_of parts) first) p ≡ piece_of r id (find (is_live_part_at p) parts) }
one_piece p r [] first h = record { id = 0; is = refl }
one_piece p r (part ∷ more) first h =
    let both = and_parts (below_all path_cmp part.path (by_path more)) (is_sorted path_cmp (by_path more)) h in
    elim (is_live part.state) as (λ l. is_live part.state ≡ l → record { id : ℕ; is : live_at (numbered_pieces r (cond l (part ∷ live_of more) (live_of more)) first) p ≡ piece_of r id (cond (eq_by_cmp path_cmp p part.path && l) (Some part) (find (is_live_part_at p) more)) }) [
      | true ↦ λ l.
          let rest = live_at (numbered_pieces r (live_of more) (first + 1)) p in
          elim (eq_by_cmp path_cmp p part.path) as (λ e. eq_by_cmp path_cmp p part.path ≡ e → record { id : ℕ; is : cond (is_some (cond (e && is_live part.state) (Some part) None)) (piece r first part ∷ rest) rest ≡ piece_of r id (cond (e && true) (Some part) (find (is_live_part_at p) more)) }) [
            | true ↦ λ e.
                let none : list_any (is_live_part_at p) more ≡ false = none_behind_path p more (ap (λ q. below_all path_cmp q (by_path more)) (same_path p part.path e) ∙ both.0) in
                record {
                  id = first;
                  is = ap (λ b. cond (is_some (cond b (Some part) None)) (piece r first part ∷ rest) rest) l ∙ ap (λ rs. piece r first part ∷ rs) (none_there p r more (first + 1) none);
                }
            | false ↦ λ e. one_piece p r more (first + 1) both.1
          ] refl
      | false ↦ λ l.
          elim (eq_by_cmp path_cmp p part.path) as (λ e. record { id : ℕ; is : live_at (numbered_pieces r (live_of more) first) p ≡ piece_of r id (cond (e && false) (Some part) (find (is_live_part_at p) more)) }) [
            | true ↦ one_piece p r more first both.1
            | false ↦ one_piece p r more first both.1
          ]
    ] refl

-- ---- the whole list

-- the second stands in the place of the first: it says the same of the path and comes from the same command; where the first
-- is the one that is split it has one part, and else it is the first
pub record StandsIn (p : Path) (id : ℕ) (r s : Record) : Type 0 where
  pub part : live_part p s ≡ live_part p r
  pub done : s.done ≡ r.done
  pub origin : s.origin ≡ r.origin
  pub itself : has_id id r ≡ false → s ≡ r
  pub alone : has_id id r ≡ true → nat_le 2 (length s.parts) ≡ false

-- a record that isn't split stays
one_stays : (p : Path) (id : ℕ) (r : Record) → has_id id r ≡ false → AllZip (StandsIn p id) (live_at (r ∷ []) p) (live_at (r ∷ []) p)
one_stays p id r other =
    elim (is_live_at p r) as (λ b. AllZip (StandsIn p id) (cond b (r ∷ []) []) (cond b (r ∷ []) [])) [
      | true ↦ (record { part = refl; done = refl; origin = refl; itself = λ _. refl; alone = λ e. absurd (both_ways (has_id id r) other e) }, tt)
      | false ↦ tt
    ]

zip_append : {X : Type 0} (R : X → X → Type 0) (xs ys us vs : List X) → AllZip R xs ys → AllZip R us vs → AllZip R (xs ++ us) (ys ++ vs)
zip_append R [] [] us vs h k = k
zip_append R [] (y ∷ ys) us vs h k = absurd h
zip_append R (x ∷ xs) [] us vs h k = absurd h
zip_append R (x ∷ xs) (y ∷ ys) us vs h k = (h.0, zip_append R xs ys us vs h.1 k)

zip_weaker : {X : Type 0} (R S : X → X → Type 0) → ((x y : X) → R x y → S x y) → (xs ys : List X) → AllZip R xs ys → AllZip S xs ys
zip_weaker R S so [] [] h = h
zip_weaker R S so [] (y ∷ ys) h = absurd h
zip_weaker R S so (x ∷ xs) [] h = absurd h
zip_weaker R S so (x ∷ xs) (y ∷ ys) h = (so x y h.0, zip_weaker R S so xs ys h.1)

-- of two such lists a test that answers alike keeps two such lists
zip_filter : {X : Type 0} (R : X → X → Type 0) (test : X → Bool) → ((x y : X) → R x y → test y ≡ test x) → (xs ys : List X) → AllZip R xs ys → AllZip R (filter test xs) (filter test ys)
zip_filter R test alike [] [] h = h
zip_filter R test alike [] (y ∷ ys) h = absurd h
zip_filter R test alike (x ∷ xs) [] h = absurd h
zip_filter R test alike (x ∷ xs) (y ∷ ys) h =
    let rest = zip_filter R test alike xs ys h.1 in
    subst (λ b. AllZip R (cond (test x) (x ∷ filter test xs) (filter test xs)) (cond b (y ∷ filter test ys) (filter test ys))) (sym (alike x y h.0))
    (elim (test x) as (λ b. AllZip R (cond b (x ∷ filter test xs) (filter test xs)) (cond b (y ∷ filter test ys) (filter test ys))) [ true ↦ (h.0, rest) | false ↦ rest ])

subst2 : {X : Type 0} (R : X → X → Type 0) (x y u v : X) → x ≡ y → u ≡ v → R x u → R y v
subst2 R x y u v e f h = subst (λ z. R z v) e (subst (λ z. R x z) f h)

found_alone : (p : Path) (r : Record) (id : ℕ) (part : RecordPart) → live_part p r ≡ Some part → live_part p (piece r id part) ≡ live_part p r
found_alone p r id part h = ap (λ b. cond b (Some part) None) (find_passes (is_live_part_at p) r.parts part h) ∙ sym h

piece_alone : (p : Path) (id : ℕ) (r : Record) (new : ℕ) (o : Option RecordPart) → has_id id r ≡ true → live_part p r ≡ o → AllZip (StandsIn p id) (cond (is_some o) (r ∷ []) []) (piece_of r new o)
piece_alone p id r new None e h = tt
piece_alone p id r new (Some part) e h = (record { part = found_alone p r new part h; done = refl; origin = refl; itself = λ f. absurd (both_ways (has_id id r) f e); alone = λ _. refl }, tt)

-- each record, or its pieces
split_in_place_one : (p : Path) (id first : ℕ) (r : Record) → AreParts r.parts → AllZip (StandsIn p id) (live_at (r ∷ []) p) (live_at (split_one id first r) p)
split_in_place_one p id first r are =
    elim (has_id id r) as (λ b. has_id id r ≡ b → AllZip (StandsIn p id) (live_at (r ∷ []) p) (live_at (cond b (pieces r first) (r ∷ [])) p)) [
      | true ↦ λ e.
          let one = one_piece p r r.parts first are.rise in
          subst (λ rs. AllZip (StandsIn p id) (live_at (r ∷ []) p) rs) (sym one.is) (piece_alone p id r one.id (live_part p r) e refl)
      | false ↦ λ e. one_stays p id r e
    ] refl

-- a split keeps place and order
pub live_at_split : (records : List Record) (id first : ℕ) (p : Path) → AllByRecursion (λ r. AreParts r.parts) records → AllZip (StandsIn p id) (live_at records p) (live_at (split records id first) p)
live_at_split [] id first p all = tt
live_at_split (r ∷ records) id first p all =
    subst2 (AllZip (StandsIn p id)) (live_at (r ∷ []) p ++ live_at records p) (live_at (r ∷ records) p) (live_at (split_one id first r) p ++ live_at (split records id first) p) (live_at (split_one id first r ++ split records id first) p) (sym (filter-append (is_live_at p) (r ∷ []) records)) (sym (filter-append (is_live_at p) (split_one id first r) (split records id first)))
    (zip_append (StandsIn p id) (live_at (r ∷ []) p) (live_at (split_one id first r) p) (live_at records p) (live_at (split records id first) p) (split_in_place_one p id first r all.0) (live_at_split records id first p all.1))

pub past_split : (records : List Record) (id first : ℕ) (p : Path) → AllByRecursion (λ r. AreParts r.parts) records → AllZip (StandsIn p id) (past records p) (past (split records id first) p)
past_split records id first p all =
    subst2 (AllZip (StandsIn p id)) (filter (λ r. r.done) (live_at records p)) (past records p) (filter (λ r. r.done) (live_at (split records id first) p)) (past (split records id first) p) (sym (past-live_at records p)) (sym (past-live_at (split records id first) p))
    (zip_filter (StandsIn p id) (λ r. r.done) (λ r s stands. stands.done) (live_at records p) (live_at (split records id first) p) (live_at_split records id first p all))

pub future_split : (records : List Record) (id first : ℕ) (p : Path) → AllByRecursion (λ r. AreParts r.parts) records → AllZip (StandsIn p id) (future records p) (future (split records id first) p)
future_split records id first p all =
    subst2 (AllZip (StandsIn p id)) (filter (λ r. not r.done) (live_at records p)) (future records p) (filter (λ r. not r.done) (live_at (split records id first) p)) (future (split records id first) p) (sym (future-live_at records p)) (sym (future-live_at (split records id first) p))
    (zip_filter (StandsIn p id) (λ r. not r.done) (λ r s stands. ap not stands.done) (live_at records p) (live_at (split records id first) p) (live_at_split records id first p all))

pub linked_split : (records : List Record) (id first : ℕ) (p : Path) → AllByRecursion (λ r. AreParts r.parts) records → IsLinkedAt records p → IsLinkedAt (split records id first) p
linked_split records id first p all linked =
    linked_alike records (split records id first) p (zip_weaker (StandsIn p id) (SameAt p) (λ r s stands. record { part = stands.part; done = stands.done }) (live_at records p) (live_at (split records id first) p) (live_at_split records id first p all)) linked
