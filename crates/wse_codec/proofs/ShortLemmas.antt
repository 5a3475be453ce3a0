-- A spelling isn't shorter than what it is made of.
use Rattle.std.proofs.Common.{ℕ, zero, suc, ◌^◌, ◌<◌, ◌≤◌, List, [], ◌∷◌, ◌++◌, length, get_or, Some, None, arith}
use Rattle.std.specs.List.{flat_map}
use Rattle.std.specs.Int.{w32, w64, to_be_bytes}
use Rattle.std.proofs.lemmas.List.{length-append}
use Rattle.wse_element.specs.Content.{Content, old_content, new_content}
use Rattle.wse_element.specs.declared.body.Body.{Body}
use Rattle.wse_element.specs.declared.body.Body.TheVariants.{Whole}
use Rattle.wse_element.specs.declared.effect.Effect.{Effect}
use Rattle.wse_element.specs.declared.effect.Effect.TheVariants.{Push, MoveBack, MoveForward, Split, Drop, Invalidate, Bump, Set}
use Rattle.wse_element.specs.Record.{RecordPart, Record}
use Rattle.wse_path.specs.Path.{Path}
use Rattle.wse_path.specs.declared.change.Numbered.{Numbered}
use Rattle.wse_codec.specs.declared.snapshot.Snapshot.{Snapshot}
use Rattle.wse_codec.specs.Allowed.{IsAllowedContent}
use Rattle.wse_codec.specs.Spelling.{path_bytes, run_bytes, content_bytes, label_bytes, state_byte, flag_byte, flags_byte, body_bytes, part_bytes, parts_bytes, element_bytes, elements_bytes, effect_bytes, version_bytes, versions_bytes, record_bytes, state_bytes}

-- An item of a row.
pub item_within : {X : Type 0} (f : X → List ℕ) (xs : List X) (i : ℕ) (d : X) → i < length xs → length (f (get_or xs i d)) ≤ length (flat_map f xs)
item_within f [] i d lt = omega (arith, lt)
item_within f (x ∷ xs) zero d lt = omega (arith, length-append (f x) (flat_map f xs))
item_within f (x ∷ xs) (suc i) d lt = omega (arith, length-append (f x) (flat_map f xs), item_within f xs i d (omega (arith, lt)))

-- The number of items in a row of which none is empty.
pub count_within : {X : Type 0} (f : X → List ℕ) → ((x : X) → 1 ≤ length (f x)) → (xs : List X) → length xs ≤ length (flat_map f xs)
count_within f some [] = omega arith
count_within f some (x ∷ xs) = omega (arith, length-append (f x) (flat_map f xs), some x, count_within f some xs)

-- The parts of a sum of lists.
left_within : (a b : List ℕ) → length a ≤ length (a ++ b)
left_within a b = omega (arith, length-append a b)

right_within : (a b : List ℕ) → length b ≤ length (a ++ b)
right_within a b = omega (arith, length-append a b)

pub content_short : (content : Content) → length (content_bytes content) < 2 ^ 32 → IsAllowedContent content
unfolding content_bytes run_bytes
content_short None lt = tt
content_short (Some bytes) lt = omega (arith, lt, length-append (to_be_bytes w32 (length bytes)) bytes)

pub old_short : (body : Body) → length (body_bytes body) < 2 ^ 32 → IsAllowedContent (old_content body)
unfolding body_bytes
old_short (Whole was is) lt = content_short was (omega (arith, lt, length-append (content_bytes was) (content_bytes is)))

pub new_short : (body : Body) → length (body_bytes body) < 2 ^ 32 → IsAllowedContent (new_content body)
unfolding body_bytes
new_short (Whole was is) lt = content_short is (omega (arith, lt, length-append (content_bytes was) (content_bytes is)))

body_in_part : (part : RecordPart) → length (body_bytes part.body) ≤ length (part_bytes part)
unfolding part_bytes
body_in_part part = omega (arith, length-append (path_bytes part.path) (state_byte part.state ∷ flag_byte part.valid ∷ body_bytes part.body))

pub part_old_short : (part : RecordPart) → length (part_bytes part) < 2 ^ 32 → IsAllowedContent (old_content part.body)
part_old_short part lt = old_short part.body (omega (arith, lt, body_in_part part))

pub part_new_short : (part : RecordPart) → length (part_bytes part) < 2 ^ 32 → IsAllowedContent (new_content part.body)
part_new_short part lt = new_short part.body (omega (arith, lt, body_in_part part))

path_some : (path : Path) → 1 ≤ length (path_bytes path)
unfolding path_bytes
path_some path = omega arith

part_some : (part : RecordPart) → 1 ≤ length (part_bytes part)
unfolding part_bytes
part_some part = omega (arith, path_some part.path, length-append (path_bytes part.path) (state_byte part.state ∷ flag_byte part.valid ∷ body_bytes part.body))

pub parts_count_short : (parts : List RecordPart) → length (parts_bytes parts) < 2 ^ 32 → length parts < 2 ^ 32
unfolding parts_bytes
parts_count_short parts lt = omega (arith, lt, count_within part_bytes part_some parts, length-append (to_be_bytes w32 (length parts)) (flat_map part_bytes parts))

pub parts_row_short : (parts : List RecordPart) → length (parts_bytes parts) < 2 ^ 32 → length (flat_map part_bytes parts) < 2 ^ 32
unfolding parts_bytes
parts_row_short parts lt = omega (arith, lt, length-append (to_be_bytes w32 (length parts)) (flat_map part_bytes parts))

pub element_parts_short : (r : Record) → length (element_bytes r) < 2 ^ 32 → length (parts_bytes r.parts) < 2 ^ 32
unfolding element_bytes
element_parts_short r lt =
    let tail : List ℕ = flags_byte r.splits r.done ∷ parts_bytes r.parts in
    let a = length-append (label_bytes r.label) tail in
    let b = length-append (to_be_bytes w64 r.origin) (label_bytes r.label ++ tail) in
    let c = length-append (to_be_bytes w64 r.id) (to_be_bytes w64 r.origin ++ (label_bytes r.label ++ tail)) in
    omega (arith, lt, a, b, c)

element_some : (r : Record) → 1 ≤ length (element_bytes r)
unfolding element_bytes
element_some r = omega arith

pub elements_count_short : (elements : List Record) → length (elements_bytes elements) < 2 ^ 32 → length elements < 2 ^ 32
unfolding elements_bytes
elements_count_short es lt = omega (arith, lt, count_within element_bytes element_some es, length-append (to_be_bytes w32 (length es)) (flat_map element_bytes es))

pub elements_row_short : (es : List Record) → length (elements_bytes es) < 2 ^ 32 → length (flat_map element_bytes es) < 2 ^ 32
unfolding elements_bytes
elements_row_short es lt = omega (arith, lt, length-append (to_be_bytes w32 (length es)) (flat_map element_bytes es))

effect_some : (effect : Effect) → 1 ≤ length (effect_bytes effect)
unfolding effect_bytes
effect_some (Push element) = omega arith
effect_some (MoveBack id) = omega arith
effect_some (MoveForward id) = omega arith
effect_some (Split id first) = omega arith
effect_some (Drop path reason) = omega arith
effect_some (Invalidate path) = omega arith
effect_some (Bump path by) = omega arith
effect_some (Set path content) = omega arith

pub effects_count_short : (effects : List Effect) → length (flat_map effect_bytes effects) < 2 ^ 32 → length effects < 2 ^ 32
effects_count_short effects lt = omega (arith, lt, count_within effect_bytes effect_some effects)

pub push_short : (element : Record) → length (effect_bytes (Push element)) < 2 ^ 32 → length (element_bytes element) < 2 ^ 32
unfolding effect_bytes
push_short element lt = omega (arith, lt)

pub set_short : (path : Path) (content : Content) → length (effect_bytes (Set path content)) < 2 ^ 32 → IsAllowedContent content
unfolding effect_bytes
set_short path content lt = content_short content (omega (arith, lt, length-append (path_bytes path) (content_bytes content)))

version_some : (version : Numbered) → 1 ≤ length (version_bytes version)
unfolding version_bytes
version_some version = omega (arith, path_some version.path, length-append (path_bytes version.path) (to_be_bytes w32 version.number))

pub versions_count_short : (versions : List Numbered) → length (versions_bytes versions) < 2 ^ 32 → length versions < 2 ^ 32
unfolding versions_bytes
versions_count_short versions lt = omega (arith, lt, count_within version_bytes version_some versions, length-append (to_be_bytes w32 (length versions)) (flat_map version_bytes versions))

pub record_row_short : (effects : List Effect) → length (record_bytes effects) < 2 ^ 32 → length (flat_map effect_bytes effects) < 2 ^ 32
unfolding record_bytes
record_row_short effects lt = omega (arith, lt, length-append (to_be_bytes w32 (length effects)) (flat_map effect_bytes effects))

tail_short : (s : Snapshot) → length (state_bytes s) < 2 ^ 32 → length (versions_bytes s.versions ++ elements_bytes s.elements) < 2 ^ 32
unfolding state_bytes
tail_short s lt =
    let tail : List ℕ = versions_bytes s.versions ++ elements_bytes s.elements in
    omega (arith, lt, length-append (to_be_bytes w64 s.next_id) tail, length-append (to_be_bytes w64 s.serial) (to_be_bytes w64 s.next_id ++ tail))

pub versions_short : (s : Snapshot) → length (state_bytes s) < 2 ^ 32 → length (versions_bytes s.versions) < 2 ^ 32
versions_short s lt = omega (arith, tail_short s lt, left_within (versions_bytes s.versions) (elements_bytes s.elements))

pub elements_short : (s : Snapshot) → length (state_bytes s) < 2 ^ 32 → length (elements_bytes s.elements) < 2 ^ 32
elements_short s lt = omega (arith, tail_short s lt, right_within (versions_bytes s.versions) (elements_bytes s.elements))
