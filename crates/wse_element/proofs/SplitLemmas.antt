-- The pieces of a record, part by part.
use Rattle.std.proofs.Common.{◌≡◌, ℕ, suc, ◌+◌, ◌<◌, ◌≤◌, cond, true, false, List, [], ◌∷◌, ◌++◌, map, length, take, get_or, sym, ap, ◌∙◌, arith}
use Rattle.std.specs.Prelude.{filter}
use Rattle.std.specs.List.{enumerate_from}
use Rattle.std.proofs.lemmas.List.{map-append, append-nil, length-map}
use Rattle.std.proofs.lemmas.List.Elements.{filter_more}
use Rattle.std.proofs.lemmas.List.FromFn.{length-enumerate_from}
use Rattle.std.proofs.lemmas.List.Sums.{length-filter, count_by-le-length}
use Rattle.wse_element.specs.Record.{RecordPart, Record}
use Rattle.wse_element.specs.Live.{is_live}
use Rattle.wse_element.specs.Split.{piece}

-- the pieces that these parts of the record make
abbrev pub pieces_among : Record → List RecordPart → ℕ → List Record
pieces_among r parts first = map (λ numbered. piece r numbered.0 numbered.1) (enumerate_from first (filter (λ part. is_live part.state) parts))

pub enumerate_from-append : {X : Type 0} (n : ℕ) (xs ys : List X) → enumerate_from n (xs ++ ys) ≡ enumerate_from n xs ++ enumerate_from (n + length xs) ys
enumerate_from-append n [] ys = let none : n ≡ n + 0 = omega arith in ap (λ m. enumerate_from m ys) none
enumerate_from-append n (x ∷ xs) ys =
    let more : n + 1 + length xs ≡ n + suc (length xs) = omega arith in
    ap (λ es. (n, x) ∷ es) (enumerate_from-append (n + 1) xs ys ∙ ap (λ m. enumerate_from (n + 1) xs ++ enumerate_from m ys) more)

-- as many as there are live parts
pub length-pieces : (r : Record) (parts : List RecordPart) (first : ℕ) → length (pieces_among r parts first) ≡ length (filter (λ part. is_live part.state) parts)
length-pieces r parts first = length-map (enumerate_from first (filter (λ part. is_live part.state) parts)) (λ numbered. piece r numbered.0 numbered.1) ∙ length-enumerate_from first (filter (λ part. is_live part.state) parts)

pub length-pieces-le : (r : Record) (parts : List RecordPart) (first : ℕ) → length (pieces_among r parts first) ≤ length parts
length-pieces-le r parts first =
    omega (arith, length-pieces r parts first, length-filter (λ part. is_live part.state) parts, count_by-le-length (λ part. is_live part.state) parts)

-- the pieces with that of one more part, if it is live
pieces_push : (r : Record) (live : List RecordPart) (part : RecordPart) (first : ℕ) → map (λ numbered. piece r numbered.0 numbered.1) (enumerate_from first (live ++ part ∷ [])) ≡ map (λ numbered. piece r numbered.0 numbered.1) (enumerate_from first live) ++ piece r (first + length live) part ∷ []
pieces_push r live part first =
    ap (map (λ (numbered : ℕ × RecordPart). piece r numbered.0 numbered.1)) (enumerate_from-append first live (part ∷ []))
    ∙ map-append (λ (numbered : ℕ × RecordPart). piece r numbered.0 numbered.1) (enumerate_from first live) ((first + length live, part) ∷ [])

pub pieces_more : (r : Record) (parts : List RecordPart) (i first : ℕ) (d : RecordPart) → i < length parts → pieces_among r (take (i + 1) parts) first ≡ pieces_among r (take i parts) first ++ cond (is_live (get_or parts i d).state) (piece r (first + length (pieces_among r (take i parts) first)) (get_or parts i d) ∷ []) []
pieces_more r parts i first d l =
    let live = filter (λ (part : RecordPart). is_live part.state) (take i parts) in
    let part = get_or parts i d in
    let all = map (λ (numbered : ℕ × RecordPart). piece r numbered.0 numbered.1) (enumerate_from first live) in
    ap (λ ps. map (λ (numbered : ℕ × RecordPart). piece r numbered.0 numbered.1) (enumerate_from first ps)) (filter_more (λ part. is_live part.state) parts i d l)
    ∙ elim (is_live part.state) as (λ b. map (λ (numbered : ℕ × RecordPart). piece r numbered.0 numbered.1) (enumerate_from first (live ++ cond b (part ∷ []) [])) ≡ all ++ cond b (piece r (first + length all) part ∷ []) []) [
      | true ↦ pieces_push r live part first ∙ ap (λ n. all ++ piece r (first + n) part ∷ []) (sym (length-pieces r (take i parts) first))
      | false ↦ ap (λ ps. map (λ (numbered : ℕ × RecordPart). piece r numbered.0 numbered.1) (enumerate_from first ps)) (append-nil live) ∙ sym (append-nil all)
    ]

-- what is added for one more part
pub pieces_step : (r : Record) (parts : List RecordPart) (i first : ℕ) (part : RecordPart) (old : List Record) → i < length parts → part ≡ get_or parts i part → old ≡ pieces_among r (take i parts) first → old ++ cond (is_live part.state) (piece r (first + length old) part ∷ []) [] ≡ pieces_among r (take (i + 1) parts) first
pieces_step r parts i first part old l is before =
    (λ j. before j ++ cond (is_live (is j).state) (piece r (first + length (before j)) (is j) ∷ []) []) ∙ sym (pieces_more r parts i first part l)
