-- Entries put one after another, texts one behind the other, and values without a number with a point.
use Rattle.std.proofs.Common.{◌≡◌, ℕ, ◌+◌, false, List, [], ◌∷◌, ◌++◌, map, take, slice_get, Option, Some, None, refl, sym, ap, ◌∙◌, append_assoc}
use Rattle.std.specs.List.{flat_map}
use Rattle.std.specs.FinMap.{put}
use Rattle.std.proofs.lemmas.List.{append-nil, map-append, take_more}
use Rattle.std.proofs.lemmas.List.Concat.{flat_map-append}
use Rattle.std.proofs.lemmas.Option.{get_or_from_slice_get, slice_get_within}
use Rattle.serde_json.specs.Written.{has_float}
use Rattle.wse_path.specs.Order.{path_cmp}
use Rattle.wse_path.specs.Path.{Path}
use Rattle.wse_path.specs.PathMap.{put_each}
use Rattle.wse_element.specs.Record.{Record, RecordPart}
use Rattle.wse_show.specs.Elements.{parts_data, element_data}
use Rattle.wse_show.specs.Files.{bytes_data, file_data}

take_next : {X : Type 0} (xs : List X) (i : ℕ) (x : X) → slice_get xs i ≡ Some x → take (i + 1) xs ≡ take i xs ++ x ∷ []
take_next xs i x e = take_more xs i x (slice_get_within xs i x e) ∙ ap (λ y. take i xs ++ y ∷ []) (get_or_from_slice_get xs i x x e)

-- ---- entries put

put_each-push : {X : Type 0} (xs : List (Path × X)) (x : Path × X) (es : List (Path × X)) → put_each (xs ++ x ∷ []) es ≡ put path_cmp x.0 x.1 (put_each xs es)
put_each-push [] x es = refl
put_each-push (y ∷ xs) x es = put_each-push xs x (put path_cmp y.0 y.1 es)

-- the next one put
pub put_next : {X : Type 0} (xs : List (Path × X)) (i : ℕ) (x : Path × X) (es : List (Path × X)) → slice_get xs i ≡ Some x → put path_cmp x.0 x.1 (put_each (take i xs) es) ≡ put_each (take (i + 1) xs) es
put_next xs i x es at = sym (put_each-push (take i xs) x es) ∙ ap (λ ys. put_each ys es) (sym (take_next xs i x at))

-- the next image put
pub put_image : {X Y : Type 0} (f : Y → Path × X) (ys : List Y) (i : ℕ) (y : Y) (es : List (Path × X)) → slice_get ys i ≡ Some y → put path_cmp (f y).0 (f y).1 (put_each (map f (take i ys)) es) ≡ put_each (map f (take (i + 1) ys)) es
put_image f ys i y es at =
    sym (put_each-push (map f (take i ys)) (f y) es)
    ∙ ap (λ xs. put_each xs es) (sym (ap (map f) (take_next ys i y at) ∙ map-append f (take i ys) (y ∷ [])))

-- some put, and then others
pub put_each-append : {X : Type 0} (xs ys es : List (Path × X)) → put_each (xs ++ ys) es ≡ put_each ys (put_each xs es)
put_each-append [] ys es = refl
put_each-append (x ∷ xs) ys es = put_each-append xs ys (put path_cmp x.0 x.1 es)

-- ---- texts one behind the other

-- the text of the next one
pub text_next : {X : Type 0} (f : X → List ℕ) (xs : List X) (i : ℕ) (x : X) (start : List ℕ) → slice_get xs i ≡ Some x → (start ++ flat_map f (take i xs)) ++ f x ≡ start ++ flat_map f (take (i + 1) xs)
text_next f xs i x start at =
    append_assoc start (flat_map f (take i xs)) (f x)
    ∙ ap (λ l. start ++ l) (sym (ap (flat_map f) (take_next xs i x at) ∙ flat_map-append f (take i xs) (x ∷ []) ∙ ap (λ l. flat_map f (take i xs) ++ l) (append-nil (f x))))

-- ---- no number with a point

bytes_plain : (bytes : Option ℕ) → has_float (bytes_data bytes) ≡ false
bytes_plain (Some n) = refl
bytes_plain None = refl

pub file_plain : (bytes : Option ℕ) (p : Path) (version : ℕ) → has_float (file_data bytes p version) ≡ false
file_plain bytes p version = rw (bytes_plain bytes) refl

parts_plain : (parts : List RecordPart) → has_float (parts_data parts) ≡ false
parts_plain [] = refl
parts_plain (part ∷ parts) = parts_plain parts

pub element_plain : (r : Record) → has_float (element_data r) ≡ false
element_plain r = rw (parts_plain r.parts) refl
