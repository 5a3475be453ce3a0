-- What the effects of an edit spell is short, since the new record and what is known are within their limits.
use Rattle.std.proofs.Common.{◌≡◌, ℕ, ◌+◌, ◌≤◌, Bool, true, false, cond, List, [], ◌∷◌, ◌++◌, map, length, Some, None, refl, sym, subst, arith}
use Rattle.std.specs.Prelude.{filter, sum_by}
use Rattle.std.specs.List.{flat_map}
use Rattle.std.specs.Int.{w16, w32, w64, to_be_bytes}
use Rattle.std.proofs.lemmas.List.{length-append}
use Rattle.std.proofs.lemmas.List.Sums.{sum_by-cons}
use Rattle.wse_path.specs.Path.{Path, text_of}
use Rattle.wse_path.specs.declared.change.Change.{Change}
use Rattle.wse_path.specs.declared.change.Numbered.{Numbered}
use Rattle.wse_element.specs.declared.body.Body.{Body}
use Rattle.wse_element.specs.declared.body.Body.TheVariants.{Whole}
use Rattle.wse_element.specs.declared.state.PartState.TheVariants.{Incompatible}
use Rattle.wse_element.specs.declared.effect.Effect.{Effect}
use Rattle.wse_element.specs.declared.effect.Effect.TheVariants.{Push, Drop, Bump}
use Rattle.wse_element.specs.Content.{Content, content_len, old_content, new_content}
use Rattle.wse_element.specs.Record.{RecordPart, Record}
use Rattle.wse_element.specs.Weight.{part_weight, record_weight}
use Rattle.wse_codec.specs.Spelling.{segment_bytes, path_bytes, run_bytes, content_bytes, label_bytes, state_byte, flag_byte, flags_byte, body_bytes, part_bytes, parts_bytes, element_bytes, effect_bytes, record_bytes}
use Rattle.wse_history.specs.Edits.{part_of}
use Rattle.wse_history.proofs.DropLemmas.{drops}
use Rattle.wse_history.proofs.MadeLemmas.{paths_of}
use Rattle.wse_history.proofs.BumpLemmas.{bumps}
use Rattle.wse_history.proofs.CountLemmas.{total}

segments_short : (p : Path) → length (flat_map segment_bytes p) ≤ length (text_of p) + 1
unfolding segment_bytes
segments_short [] = omega arith
segments_short (s ∷ []) = omega (arith, length-append s [])
segments_short (s ∷ t ∷ ss) = omega (arith, length-append s (flat_map segment_bytes (t ∷ ss)), length-append s (47 ∷ text_of (t ∷ ss)), segments_short (t ∷ ss))

pub path_short : (p : Path) → length (path_bytes p) ≤ length (text_of p) + 2
unfolding path_bytes
path_short p = let l = segments_short p in omega (arith, l)

pub content_short : (content : Content) → length (content_bytes content) ≤ content_len content + 5
unfolding content_bytes run_bytes
content_short None = omega arith
content_short (Some bytes) = let four : length (to_be_bytes w32 (length bytes)) ≡ 4 = refl in omega (arith, four, length-append (to_be_bytes w32 (length bytes)) bytes)

body_short : (body : Body) → length (body_bytes body) ≤ content_len (old_content body) + content_len (new_content body) + 11
unfolding body_bytes
body_short (Whole was is) = omega (arith, content_short was, content_short is, length-append (content_bytes was) (content_bytes is))

-- a part counts for more than it spells, by the label and 241 bytes
pub part_short : (label : List ℕ) (part : RecordPart) → length (part_bytes part) + 241 + length label ≤ part_weight label part
unfolding part_bytes
part_short label part =
    omega (arith, path_short part.path, body_short part.body, length-append (path_bytes part.path) (state_byte part.state ∷ flag_byte part.valid ∷ body_bytes part.body))

pub parts_short : (label : List ℕ) (parts : List RecordPart) → length (flat_map part_bytes parts) ≤ sum_by (part_weight label) parts
parts_short label [] = omega arith
parts_short label (part ∷ parts) =
    let sums = sum_by-cons (part_weight label) part parts in
    omega (arith, sums, part_short label part, parts_short label parts, length-append (part_bytes part) (flat_map part_bytes parts))

some_parts_short : (label : List ℕ) (part : RecordPart) (parts : List RecordPart) → length (flat_map part_bytes (part ∷ parts)) + 241 + length label ≤ sum_by (part_weight label) (part ∷ parts)
some_parts_short label part parts =
    let sums = sum_by-cons (part_weight label) part parts in
    omega (arith, sums, part_short label part, parts_short label parts, length-append (part_bytes part) (flat_map part_bytes parts))

pub row_short : (parts : List RecordPart) → length (parts_bytes parts) ≡ 4 + length (flat_map part_bytes parts)
unfolding parts_bytes
row_short parts = let four : length (to_be_bytes w32 (length parts)) ≡ 4 = refl in omega (arith, four, length-append (to_be_bytes w32 (length parts)) (flat_map part_bytes parts))

label_short : (label : List ℕ) → length (label_bytes label) ≡ 2 + length label
unfolding label_bytes
label_short label = let two : length (to_be_bytes w16 (length label)) ≡ 2 = refl in omega (arith, two, length-append (to_be_bytes w16 (length label)) label)

element_short : (r : Record) → length (element_bytes r) ≡ 23 + length r.label + length (flat_map part_bytes r.parts)
unfolding element_bytes
element_short r =
    let tail : List ℕ = flags_byte r.splits r.done ∷ parts_bytes r.parts in
    let a = length-append (label_bytes r.label) tail in
    let b = length-append (to_be_bytes w64 r.origin) (label_bytes r.label ++ tail) in
    let c = length-append (to_be_bytes w64 r.id) (to_be_bytes w64 r.origin ++ (label_bytes r.label ++ tail)) in
    let d : length (to_be_bytes w64 r.origin) ≡ 8 = refl in
    let e : length (to_be_bytes w64 r.id) ≡ 8 = refl in
    omega (arith, a, b, c, d, e, label_short r.label, row_short r.parts)

-- a new record spells no more than it counts for
pub push_short : (r : Record) (part : RecordPart) (parts : List RecordPart) → r.parts ≡ part ∷ parts → length (effect_bytes (Push r)) ≤ record_weight r
unfolding effect_bytes
push_short r part parts are =
    let some = subst (λ (ps : List RecordPart). length (flat_map part_bytes ps) + 241 + length r.label ≤ sum_by (part_weight r.label) ps) (sym are) (some_parts_short r.label part parts) in
    let all = element_short r in
    omega (arith, some, all)

drop_short : (p : Path) → length (effect_bytes (Drop p Incompatible)) ≤ length (text_of p) + 4
unfolding effect_bytes
drop_short p = omega (arith, path_short p, length-append (path_bytes p) (state_byte Incompatible ∷ []))

bump_short : (p : Path) (by : ℕ) → length (effect_bytes (Bump p by)) ≤ length (text_of p) + 4
unfolding effect_bytes
bump_short p by = omega (arith, path_short p, length-append (path_bytes p) (by ∷ []))

drop_in_part : (label : List ℕ) (c : Change) → length (text_of c.path) + 4 ≤ part_weight label (part_of c)
drop_in_part label c = omega arith

-- the drops spell no more than the new record counts for
pub drops_short : (test : Path → Bool) (label : List ℕ) (cs : List Change) → length (flat_map effect_bytes (drops (filter test (paths_of cs)))) ≤ sum_by (part_weight label) (map part_of cs)
drops_short test label [] = omega arith
drops_short test label (c ∷ cs) =
    let rest = drops_short test label cs in
    let sums = sum_by-cons (part_weight label) (part_of c) (map part_of cs) in
    let left = filter test (paths_of cs) in
    elim (test c.path) as (λ b. length (flat_map effect_bytes (drops (cond b (c.path ∷ left) left))) ≤ sum_by (part_weight label) (map part_of (c ∷ cs))) [
      | true ↦ omega (arith, rest, sums, drop_in_part label c, drop_short c.path, length-append (effect_bytes (Drop c.path Incompatible)) (flat_map effect_bytes (drops left)))
      | false ↦ omega (arith, rest, sums)
    ]

-- the bumps no more than their paths, where they are known
pub bumps_short : (bs : List Numbered) → length (flat_map effect_bytes (bumps bs)) ≤ total bs
bumps_short [] = omega arith
bumps_short (b ∷ bs) = omega (arith, bump_short b.path b.number, bumps_short bs, length-append (effect_bytes (Bump b.path b.number)) (flat_map effect_bytes (bumps bs)))

pub record_short : (effects : List Effect) → length (record_bytes effects) ≡ 5 + length (flat_map effect_bytes effects)
unfolding record_bytes
record_short effects = let four : length (to_be_bytes w32 (length effects)) ≡ 4 = refl in omega (arith, four, length-append (to_be_bytes w32 (length effects)) (flat_map effect_bytes effects))
