-- Parts and elements: what is read of one is spelled so, and what is spelled so is read.
use Rattle.std.proofs.Common.{◌≡◌, ℕ, ◌^◌, ◌<◌, List, ◌∷◌, ◌++◌, length, All, Option, None, option_map, Ok, refl, ap, subst, ◌∙◌, append_assoc}
use Rattle.std.specs.Int.{w64, to_be_bytes}
use Rattle.wse_path.specs.Path.{Path}
use Rattle.wse_element.specs.Record.{RecordPart, Record, AreParts}
use Rattle.wse_codec.specs.Spelling.{path_bytes, label_bytes, state_byte, flag_byte, flags_byte, body_bytes, part_bytes, parts_bytes, element_bytes, elements_bytes}
use Rattle.wse_codec.specs.Allowed.{IsAllowedPart, IsAllowedElement, AreAllowedElements}
use Rattle.wse_codec.specs.Pieces.{◌>>=◌, number_at}
use Rattle.wse_codec.specs.Reading.{state_at, flag_at, body_at, part_behind, label_at, flags_at, parts_at, element_at, elements_at}
use Rattle.wse_codec.proofs.FieldLemmas.{IsBytes, IsPiece, Takes, then_takes, step, ok_is, ruled, number32, number64, count}
use Rattle.wse_codec.proofs.RowLemmas.{Each, counted, all_from_each, each_from_all, both_each, weaker_each, some_items, items_some, Behind, rise_from_each, each_from_rise}
use Rattle.wse_codec.proofs.PathLemmas.{path_after}
use Rattle.wse_codec.proofs.ContentLemmas.{flag, state, flags, label, body, IsAllowedBody}

abbrev part_path : RecordPart → Path
part_path part = part.path

-- A part behind another.
abbrev pub IsPartBehind : Option RecordPart → RecordPart → Type 0
IsPartBehind before part = IsAllowedPart part × Behind part_path before part

part_takes : (before : Option RecordPart) (bytes : List ℕ) (x : RecordPart × List ℕ) → IsBytes bytes → part_behind before bytes ≡ Ok x
    → Takes bytes (part_bytes x.0) x.1 × IsPartBehind before x.0
unfolding part_behind part_bytes
part_takes before bytes x fits e =
    let a = step (path_after (option_map part_path before)) bytes (λ path. state_at path.1 >>= λ state. flag_at state.1 >>= λ valid. body_at state.0 valid.1 >>= λ body. Ok (record { path = path.0; state = state.0; valid = valid.0; body = body.0 }, body.1)) x fits e in
    let b = step state a.rest (λ state. flag_at state.1 >>= λ valid. body_at state.0 valid.1 >>= λ body. Ok (record { path = a.value; state = state.0; valid = valid.0; body = body.0 }, body.1)) x a.took.rest_fits a.goes_on in
    let c = step flag b.rest (λ valid. body_at b.value valid.1 >>= λ body. Ok (record { path = a.value; state = b.value; valid = valid.0; body = body.0 }, body.1)) x b.took.rest_fits b.goes_on in
    let d = step (body b.value) c.rest (λ body. Ok (record { path = a.value; state = b.value; valid = c.value; body = body.0 }, body.1)) x c.took.rest_fits c.goes_on in
    let both = then_takes a.took (then_takes b.took (then_takes c.took d.took)) in
    let part : RecordPart = record { path = a.value; state = b.value; valid = c.value; body = d.value } in
    subst (λ (y : RecordPart × List ℕ). Takes bytes (part_bytes y.0) y.1 × IsPartBehind before y.0) (ok_is (part, d.rest) x d.goes_on)
    (both, (record { path = a.allowed.0; rule = d.allowed.rule; old = d.allowed.old; new = d.allowed.new }, a.allowed.1))

part_again : (before : Option RecordPart) (part : RecordPart) (rest : List ℕ) → IsPartBehind before part → part_behind before (part_bytes part ++ rest) ≡ Ok (part, rest)
unfolding part_behind part_bytes
part_again before part rest h =
    let allowed : IsAllowedBody part.state part.body = record { rule = h.0.rule; old = h.0.old; new = h.0.new } in
    let tail : List ℕ = body_bytes part.body ++ rest in
    let first = (path_after (option_map part_path before)).again part.path (state_byte part.state ∷ flag_byte part.valid ∷ tail) (h.0.path, h.1) in
    let second = state.again part.state (flag_byte part.valid ∷ tail) tt in
    let third = flag.again part.valid tail tt in
    let fourth = (body part.state).again part.body rest allowed in
    ap (part_behind before) (append_assoc (path_bytes part.path) (state_byte part.state ∷ flag_byte part.valid ∷ body_bytes part.body) rest) ∙ rw (first, second, third, fourth) refl

pub part : (before : Option RecordPart) → IsPiece (part_behind before) part_bytes (IsPartBehind before)
part before = record { takes = part_takes before; again = part_again before }

-- ---- lists of parts

pub record AreAllowedParts (items : List RecordPart) : Type 0 where
  pub parts : AreParts items
  pub count : length items < 2 ^ 32
  pub each : All IsAllowedPart items

abbrev ReadParts : List RecordPart → Type 0
ReadParts parts = ((0 < length parts) × (length parts < 2 ^ 32)) × Each IsPartBehind None parts

parts_to : (parts : List RecordPart) → ReadParts parts → AreAllowedParts parts
parts_to parts h = record {
  parts = record {
    some = items_some parts h.0.0;
    rise = rise_from_each part_path (λ part. part) None parts (weaker_each IsPartBehind (Behind part_path) (λ before v p. p.1) None parts h.1);
  };
  count = h.0.1;
  each = all_from_each IsPartBehind IsAllowedPart (λ before v p. p.0) None parts h.1;
}

parts_from : (parts : List RecordPart) → AreAllowedParts parts → ReadParts parts
parts_from parts h = (
  (some_items parts h.parts.some, h.count),
  both_each (λ before v. IsAllowedPart v) (Behind part_path) IsPartBehind (λ before v p q. (p, q)) None parts
      (each_from_all IsAllowedPart (λ before v. IsAllowedPart v) (λ before v p. p) None parts h.each)
      (each_from_rise part_path (λ part. part) parts h.parts.rise),
)

pub parts : IsPiece parts_at parts_bytes AreAllowedParts
unfolding parts_at parts_bytes
parts = ruled AreAllowedParts (counted count part) parts_to parts_from

-- ---- elements

element_takes : (bytes : List ℕ) (x : Record × List ℕ) → IsBytes bytes → element_at bytes ≡ Ok x → Takes bytes (element_bytes x.0) x.1 × IsAllowedElement x.0
unfolding element_at element_bytes
element_takes bytes x fits e =
    let a = step number64 bytes (λ id. number_at w64 id.1 >>= λ origin. label_at origin.1 >>= λ label. flags_at label.1 >>= λ flags. parts_at flags.1 >>= λ parts. Ok (record { id = id.0; origin = origin.0; label = label.0; splits = flags.0.0; done = flags.0.1; parts = parts.0 }, parts.1)) x fits e in
    let b = step number64 a.rest (λ origin. label_at origin.1 >>= λ label. flags_at label.1 >>= λ flags. parts_at flags.1 >>= λ parts. Ok (record { id = a.value; origin = origin.0; label = label.0; splits = flags.0.0; done = flags.0.1; parts = parts.0 }, parts.1)) x a.took.rest_fits a.goes_on in
    let c = step label b.rest (λ label. flags_at label.1 >>= λ flags. parts_at flags.1 >>= λ parts. Ok (record { id = a.value; origin = b.value; label = label.0; splits = flags.0.0; done = flags.0.1; parts = parts.0 }, parts.1)) x b.took.rest_fits b.goes_on in
    let d = step flags c.rest (λ flags. parts_at flags.1 >>= λ parts. Ok (record { id = a.value; origin = b.value; label = c.value; splits = flags.0.0; done = flags.0.1; parts = parts.0 }, parts.1)) x c.took.rest_fits c.goes_on in
    let p = step parts d.rest (λ parts. Ok (record { id = a.value; origin = b.value; label = c.value; splits = d.value.0; done = d.value.1; parts = parts.0 }, parts.1)) x d.took.rest_fits d.goes_on in
    let both = then_takes a.took (then_takes b.took (then_takes c.took (then_takes d.took p.took))) in
    let made : Record = record { id = a.value; origin = b.value; label = c.value; splits = d.value.0; done = d.value.1; parts = p.value } in
    subst (λ (y : Record × List ℕ). Takes bytes (element_bytes y.0) y.1 × IsAllowedElement y.0) (ok_is (made, p.rest) x p.goes_on)
    (both, record { id = a.allowed; origin = b.allowed; label = c.allowed; parts = p.allowed.parts; count = p.allowed.count; each = p.allowed.each })

element_again : (r : Record) (rest : List ℕ) → IsAllowedElement r → element_at (element_bytes r ++ rest) ≡ Ok (r, rest)
unfolding element_at element_bytes
element_again r rest h =
    let tail : List ℕ = flags_byte r.splits r.done ∷ (parts_bytes r.parts ++ rest) in
    let behind_id : List ℕ = to_be_bytes w64 r.origin ++ (label_bytes r.label ++ tail) in
    let allowed : AreAllowedParts r.parts = record { parts = h.parts; count = h.count; each = h.each } in
    let regrouped : element_bytes r ++ rest ≡ to_be_bytes w64 r.id ++ behind_id
    = ap (λ (t : List ℕ). to_be_bytes w64 r.id ++ (to_be_bytes w64 r.origin ++ t)) (append_assoc (label_bytes r.label) (flags_byte r.splits r.done ∷ parts_bytes r.parts) rest) in
    let first = number64.again r.id behind_id h.id in
    let second = number64.again r.origin (label_bytes r.label ++ tail) h.origin in
    let third = label.again r.label tail h.label in
    let fourth = flags.again (r.splits, r.done) (parts_bytes r.parts ++ rest) tt in
    let fifth = parts.again r.parts rest allowed in
    ap element_at regrouped ∙ rw (first, second, third, fourth, fifth) refl

pub element : IsPiece element_at element_bytes IsAllowedElement
element = record { takes = element_takes; again = element_again }

abbrev ReadElements : List Record → Type 0
ReadElements elements = (length elements < 2 ^ 32) × Each (λ before r. IsAllowedElement r) None elements

elements_to : (es : List Record) → ReadElements es → AreAllowedElements es
elements_to es h = record { count = h.0; each = all_from_each (λ before r. IsAllowedElement r) IsAllowedElement (λ before r p. p) None es h.1 }

elements_from : (es : List Record) → AreAllowedElements es → ReadElements es
elements_from es h = (h.count, each_from_all IsAllowedElement (λ before r. IsAllowedElement r) (λ before r p. p) None es h.each)

pub elements : IsPiece elements_at elements_bytes AreAllowedElements
unfolding elements_at elements_bytes
elements = ruled AreAllowedElements (counted number32 (λ before. element)) elements_to elements_from
