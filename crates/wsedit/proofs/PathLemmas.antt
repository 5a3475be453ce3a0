-- The text of a path, segment by segment.
use Rattle.std.proofs.Common.{◌≡◌, ℕ, ◌+◌, ◌-◌, ◌<◌, ◌≤◌, List, [], ◌∷◌, ◌++◌, take, drop, get_or, length, refl, sym, ap, arith, ◌∙◌, String, string_bytes}
use Rattle.std.proofs.lemmas.List.{append-nil, at_drop_more, drop_all, take_all}
use Rattle.wse_path.specs.Path.{text_of, bytes_of}

-- segments, each behind a slash
unfoldable pub behind : {A : Type 0} → List (String A) → List ℕ
behind [] = []
behind (s ∷ segments) = (47 ∷ string_bytes s) ++ behind segments

pub behind_more : {A : Type 0} (segments : List (String A)) (i : ℕ) (d : String A) → i < length segments → behind (drop i segments) ≡ (47 ∷ string_bytes (get_or segments i d)) ++ behind (drop (i + 1) segments)
unfolding behind
behind_more segments i d l = at_drop_more behind segments i d l

pub behind_all : {A : Type 0} (segments : List (String A)) (i : ℕ) → length segments ≤ i → behind (drop i segments) ≡ []
unfolding behind
behind_all segments i l = ap behind (drop_all i segments l)

pub text_is : {A : Type 0} (first : String A) (rest : List (String A)) → text_of (bytes_of (first ∷ rest)) ≡ string_bytes first ++ behind rest
unfolding behind
text_is first [] = sym (append-nil (string_bytes first))
text_is first (s ∷ rest) = ap (λ t. string_bytes first ++ (47 ∷ t)) (text_is s rest)

-- by the places of the segments, as a slice is taken apart
pub text_from : {A : Type 0} (segments : List (String A)) (d : String A) → 0 < length segments → text_of (bytes_of segments) ≡ string_bytes (get_or segments 0 d) ++ behind (take (length segments - 1) (drop 1 segments))
text_from {A} [] d l = absurd (omega arith)
text_from {A} (s ∷ rest) d l = text_is s rest ∙ ap (λ (xs : List (String A)). string_bytes s ++ behind xs) (sym (take_all (length (s ∷ rest) - 1) rest (omega arith)))

pub no_text : {A : Type 0} (segments : List (String A)) → length segments < 1 → text_of (bytes_of segments) ≡ []
no_text [] l = refl
no_text (s ∷ rest) l = absurd (omega arith)
