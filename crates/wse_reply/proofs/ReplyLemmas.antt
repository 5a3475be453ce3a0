-- Versions, skips and texts of paths, one after another.
use Rattle.std.proofs.Common.{◌≡◌, ℕ, ◌+◌, ◌<◌, List, [], ◌∷◌, ◌++◌, length, map, take, get_or, String, Global, string_bytes, refl, sym, ap, ◌∙◌}
use Rattle.std.proofs.lemmas.List.{take_more, map-append}
use Rattle.std.specs.BTreeMap.{insert_entry}
use Rattle.std.specs.List.{flat_map, join_by}
use Rattle.std.specs.String.{string_cmp}
use Rattle.serde_json.proofs.Views.{members_view-insert_entry}
use Rattle.serde_json.specs.Data.{Members, no_members, put, number, unsigned}
use Rattle.serde_json.specs.View.{view, members_view}
use Rattle.serde_json.specs.declared.value.Value.{Value}
use Rattle.wse_path.specs.Path.{text_of}
use Rattle.wse_path.specs.declared.change.Numbered.{Numbered}
use Rattle.wse_reply.specs.Values.{put_versions}

versions_more : (bs : List Numbered) (b : Numbered) (ms : Members) → put_versions (bs ++ b ∷ []) ms ≡ put (text_of b.path) (number (unsigned b.number)) (put_versions bs ms)
versions_more [] b ms = refl
versions_more (x ∷ bs) b ms = versions_more bs b (put (text_of x.path) (number (unsigned x.number)) ms)

-- one version more
pub versions_step : (bs : List Numbered) (i : ℕ) (d : Numbered) (es : List (String Global × Value)) (k : String Global) (v : Value) → i < length bs → members_view es ≡ put_versions (take i bs) no_members
    → string_bytes k ≡ text_of (get_or bs i d).path → view v ≡ number (unsigned (get_or bs i d).number) → members_view (insert_entry string_cmp es k v) ≡ put_versions (take (i + 1) bs) no_members
versions_step bs i d es k v l h p q =
    members_view-insert_entry es k v
    ∙ rw (p, q, h) (sym (ap (λ l. put_versions l no_members) (take_more bs i d l) ∙ versions_more (take i bs) (get_or bs i d) no_members))

-- one item more, of two lists that look alike
pub images_step : {A B C : Type 0} (f : A → C) (g : B → C) (xs : List A) (ys : List B) (i : ℕ) (x : A) (d : B) → i < length ys → map f xs ≡ map g (take i ys) → f x ≡ g (get_or ys i d) → map f (xs ++ x ∷ []) ≡ map g (take (i + 1) ys)
images_step f g xs ys i x d l h e =
    map-append f xs (x ∷ [])
    ∙ rw (h, e) (sym (ap (map g) (take_more ys i d l) ∙ map-append g (take i ys) (get_or ys i d ∷ [])))

rest_of_texts : {A : Type 0} (f : A → List ℕ) (sep : List ℕ) (xs : List A) → flat_map (λ x. sep ++ f x) xs ≡ flat_map (λ t. sep ++ t) (map f xs)
rest_of_texts f sep [] = refl
rest_of_texts f sep (x ∷ xs) = ap (λ r. (sep ++ f x) ++ r) (rest_of_texts f sep xs)

joined_texts : {A : Type 0} (f : A → List ℕ) (sep : List ℕ) (xs : List A) → join_by f sep xs ≡ join_by (λ t. t) sep (map f xs)
joined_texts f sep [] = refl
joined_texts f sep (x ∷ xs) = ap (λ r. f x ++ r) (rest_of_texts f sep xs)

-- lists of the same texts are joined to the same text
pub joined_alike : {A B : Type 0} (f : A → List ℕ) (g : B → List ℕ) (sep : List ℕ) (xs : List A) (ys : List B) → map f xs ≡ map g ys → join_by f sep xs ≡ join_by g sep ys
joined_alike f g sep xs ys h = joined_texts f sep xs ∙ ap (join_by (λ t. t) sep) h ∙ sym (joined_texts g sep ys)
