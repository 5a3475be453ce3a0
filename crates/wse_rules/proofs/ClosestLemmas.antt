-- The closest record is one of the list, and is found by its id.
use Rattle.std.proofs.Common.{◌≡◌, ◌⊎◌, inl, inr, ℕ, eqb, Bool, true, false, cond, not, ◌&&◌, ◌||◌, List, [], ◌∷◌, Option, Some, None, option_map, refl, sym, ap, ◌∙◌}
use Rattle.std.specs.Prelude.{filter, find, slice_get}
use Rattle.std.specs.List.{list_any, last_or}
use Rattle.std.proofs.lemmas.Bool.{or_left, not-true, eq-eqb, eqb-true, true≢false}
use Rattle.std.proofs.lemmas.Option.{none-some}
use Rattle.wse_path.specs.Path.{Path}
use Rattle.wse_path.specs.declared.command.Direction.{Direction}
use Rattle.wse_path.specs.declared.command.Direction.TheVariants.{Back, Forward}
use Rattle.wse_path.proofs.EntryLemmas.{and_parts}
use Rattle.wse_element.specs.Record.{Record}
use Rattle.wse_element.specs.Live.{is_live_at}
use Rattle.wse_element.specs.Stacks.{past, future, ids, has_id, record_of}
use Rattle.wse_element.specs.Linked.{are_different}
use Rattle.wse_rules.specs.Ruling.{closest}

-- The record is one of the list.
abbrev pub In : Record → List Record → Type 0
In r [] = ⊥
In r (x ∷ xs) = (r ≡ x) ⊎ In r xs

in_filter : (r : Record) (test : Record → Bool) (xs : List Record) → In r (filter test xs) → In r xs × (test r ≡ true)
in_filter r test [] h = absurd h
in_filter r test (x ∷ xs) h =
    elim (test x) as (λ b. test x ≡ b → In r (cond b (x ∷ filter test xs) (filter test xs)) → In r (x ∷ xs) × (test r ≡ true)) [
      | true ↦ λ e k. elim k [ inl here ↦ (inl here, ap test here ∙ e) | inr later ↦ (let rest = in_filter r test xs later in (inr rest.0, rest.1)) ]
      | false ↦ λ e k. let rest = in_filter r test xs k in (inr rest.0, rest.1)
    ] refl h

same_Some : (a b : Record) → Some a ≡ Some b → b ≡ a
same_Some a b h = cc

in_last : (x : Record) (more : List Record) (c : Record) → last_or (Some x) more ≡ Some c → In c (x ∷ more)
in_last x [] c h = inl (same_Some x c h)
in_last x (y ∷ more) c h = inr (in_last y more c h)

last_in : (xs : List Record) (c : Record) → last_or None xs ≡ Some c → In c xs
last_in [] c h = absurd (none-some c h)
last_in (x ∷ more) c h = in_last x more c h

first_in : (xs : List Record) (c : Record) → slice_get xs 0 ≡ Some c → In c xs
first_in [] c h = absurd (none-some c h)
first_in (x ∷ more) c h = inl (same_Some x c h)

-- the closest record is one of the list, and live at the path
pub closest_among : (direction : Direction) (records : List Record) (p : Path) (r : Record) → closest direction records p ≡ Some r → In r records × (is_live_at p r ≡ true)
closest_among Back records p r is =
    let among = in_filter r (λ x. x.done && is_live_at p x) records (last_in (past records p) r is) in
    (among.0, (and_parts r.done (is_live_at p r) among.1).1)
closest_among Forward records p r is =
    let among = in_filter r (λ x. not x.done && is_live_at p x) records (first_in (future records p) r is) in
    (among.0, (and_parts (not r.done) (is_live_at p r) among.1).1)

no_id : (x : Record) (xs : List Record) (r : Record) → list_any (λ m. eqb m x.id) (ids xs) ≡ false → In r xs → has_id r.id x ≡ true → ⊥
no_id x [] r none there same = there
no_id x (y ∷ ys) r none there same =
    elim there [
      | inl here ↦ true≢false (sym (or_left (eqb y.id x.id) (list_any (λ m. eqb m x.id) (ids ys)) (eq-eqb y.id x.id (ap (λ (z : Record). z.id) (sym here) ∙ sym (eqb-true x.id r.id same)))) ∙ none)
      | inr later ↦ elim (eqb y.id x.id) as (λ b. (b || list_any (λ m. eqb m x.id) (ids ys)) ≡ false → ⊥) [
        | true ↦ λ k. true≢false k
        | false ↦ λ k. no_id x ys r k later same
      ] none
    ]

-- where all ids are different, a record of the list is found by its id
pub found_itself : (xs : List Record) (r : Record) → are_different (ids xs) ≡ true → In r xs → record_of xs r.id ≡ Some r
found_itself [] r different there = absurd there
found_itself (x ∷ xs) r different there =
    let parts = and_parts (not (list_any (λ m. eqb m x.id) (ids xs))) (are_different (ids xs)) different in
    elim there [
      | inl here ↦ ap (λ b. cond b (Some x) (find (has_id r.id) xs)) (eq-eqb x.id r.id (ap (λ (y : Record). y.id) (sym here))) ∙ ap Some (sym here)
      | inr later ↦ elim (has_id r.id x) as (λ b. has_id r.id x ≡ b → cond b (Some x) (find (has_id r.id) xs) ≡ Some r) [
        | true ↦ λ e. absurd (no_id x xs r (not-true (list_any (λ m. eqb m x.id) (ids xs)) parts.0) later e)
        | false ↦ λ e. found_itself xs r parts.1 later
      ] refl
    ]

found_with : (direction : Direction) (records : List Record) (p : Path) (o : Option Record) (id : ℕ) → closest direction records p ≡ o → are_different (ids records) ≡ true
    → Some id ≡ option_map (λ (r : Record). r.id) o → record_of records id ≡ closest direction records p
found_with direction records p None id is different same = absurd (none-some id (sym same))
found_with direction records p (Some r) id is different same =
    let among = closest_among direction records p r is in
    let e : id ≡ r.id = cc in
    ap (record_of records) e ∙ found_itself records r different among.0 ∙ sym is

-- the record with the closest one's id is the closest
pub found_closest : (direction : Direction) (records : List Record) (p : Path) (id : ℕ) → are_different (ids records) ≡ true
    → Some id ≡ option_map (λ (r : Record). r.id) (closest direction records p) → record_of records id ≡ closest direction records p
found_closest direction records p id different same = found_with direction records p (closest direction records p) id refl different same
