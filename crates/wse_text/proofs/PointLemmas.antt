-- The code points of the lines that a text is cut into.
use Rattle.std.proofs.Common.{◌≡◌, ◌≢◌, ℕ, ◌+◌, ◌<◌, suc, Bool, true, false, not, cond, ◌||◌, List, [], ◌∷◌, ◌++◌, length, map, take, drop, get_or, inl, inr, subst, refl, sym, ap, ◌∙◌, append_assoc, arith}
use Rattle.std.specs.Char.{encode_utf8}
use Rattle.std.specs.List.{All, prefix_len, take_while}
use Rattle.std.specs.Str.{chars, encode_utf8_all, IsCharBoundary, IsUtf8}
use Rattle.std.proofs.lemmas.Bool.{ne_eqb}
use Rattle.std.proofs.lemmas.List.{append-nil, drop_at, take_at, length-append, get_or_at}
use Rattle.std.proofs.lemmas.List.Elements.{All-cons, All-drop, All-nil}
use Rattle.std.proofs.lemmas.Str.{chars-append, chars_past_char, encode_ascii, encodes-chars, IsCharBoundary-after_ascii, IsCharBoundary-before_ascii, IsUtf8-drop, IsUtf8-take}
use Rattle.wse_text.specs.Lines.{EndedLine, line_and_end, IsLineEnd, HoldsNoLineEnd, IsCut, lines_of, starts_from}
use Rattle.wse_text.specs.Place.{ends_line, line_at}

abbrev pub IsPlain : ℕ → Type 0
IsPlain b = (b ≢ 10) × (b ≢ 13)

abbrev passes : ℕ → Bool
passes c = not (ends_line c)

passes_plain : (c : ℕ) → IsPlain c → passes c ≡ true
passes_plain c plain = λ i. not (ne_eqb c 10 plain.0 i || ne_eqb c 13 plain.1 i)

-- A code point of bytes that are no line end is none.
plain_point : (c : ℕ) (bs : List ℕ) → All IsPlain (encode_utf8 c ++ bs) → IsPlain c
plain_point c bs all = (not_this 10 (omega arith) (λ e. (here 10 (omega arith) e).0 refl), not_this 13 (omega arith) (λ e. (here 13 (omega arith) e).1 refl))
  where
    here : (d : ℕ) → d < 128 → c ≡ d → IsPlain d
    here d low is = subst (λ xs. All IsPlain (xs ++ bs)) (ap encode_utf8 is ∙ encode_ascii d low) all 0 0 (omega arith)

    not_this : (d : ℕ) → d < 128 → (c ≡ d → ⊥) → c ≢ d
    not_this d low none = none

plain_points : (cs : List ℕ) → All IsPlain (encode_utf8_all cs) → All (λ c. passes c ≡ true) cs
plain_points [] all = All-nil (λ c. passes c ≡ true)
plain_points (c ∷ cs) all =
    All-cons (λ c. passes c ≡ true) c cs (passes_plain c (plain_point c (encode_utf8_all cs) all))
    (plain_points cs (subst (All IsPlain) (drop_at (encode_utf8 c) (encode_utf8_all cs) (length (encode_utf8 c)) refl) (All-drop IsPlain (length (encode_utf8 c)) (encode_utf8 c ++ encode_utf8_all cs) all)))

take_while-front : (xs ys : List ℕ) → All (λ c. passes c ≡ true) xs → take_while passes ys ≡ [] → take_while passes (xs ++ ys) ≡ xs
take_while-front [] ys all none = none
take_while-front (x ∷ xs) ys all none =
    let n = prefix_len passes (xs ++ ys) in
    let next : 1 + n ≡ suc n = omega arith in
    ap (λ b. take (cond b (1 + n) 0) (x ∷ (xs ++ ys))) (all 0 x (omega arith))
    ∙ ap (λ k. take k (x ∷ (xs ++ ys))) next
    ∙ ap (λ t. x ∷ t) (take_while-front xs ys (λ k d low. all (suc k) d (omega arith)) none)

points_of_plain : (line : List ℕ) → IsUtf8 line → HoldsNoLineEnd line → All (λ c. passes c ≡ true) (chars line)
points_of_plain line utf8 plain = plain_points (chars line) (subst (All IsPlain) (sym (encodes-chars line utf8)) plain)

take_while-stop : (b : ℕ) (ys : List ℕ) → passes b ≡ false → take_while passes (b ∷ ys) ≡ []
take_while-stop b ys stops = ap (λ t. take (cond t (1 + prefix_len passes ys) 0) (b ∷ ys)) stops

-- A line in front of a byte that ends it.
ends_at : (line tail : List ℕ) (b : ℕ) → b < 128 → passes b ≡ false → IsUtf8 (line ++ b ∷ tail) → HoldsNoLineEnd line → (take_while passes (chars (line ++ b ∷ tail)) ≡ chars line) × IsUtf8 tail
ends_at line tail b low stops utf8 plain =
    let whole : List ℕ = line ++ b ∷ tail in
    let at_b : get_or whole (length line) 0 ≡ b = get_or_at line b tail 0 (length line) refl in
    let len : length whole ≡ length line + length (b ∷ tail) = length-append line (b ∷ tail) in
    let boundary : IsCharBoundary whole (length line) = IsCharBoundary-before_ascii whole (length line) (omega arith) (omega arith) in
    let utf8_line : IsUtf8 line = subst IsUtf8 (take_at line (b ∷ tail) (length line) refl) (IsUtf8-take whole (length line) utf8 boundary) in
    let utf8_behind : IsUtf8 (b ∷ tail) = subst IsUtf8 (drop_at line (b ∷ tail) (length line) refl) (IsUtf8-drop whole (length line) utf8 boundary) in
    let points : chars (b ∷ tail) ≡ b ∷ chars tail = chars_past_char (b ∷ tail) tail b utf8_behind (sym (ap (λ xs. xs ++ tail) (encode_ascii b low))) in (
      ap (take_while passes) (chars-append line (b ∷ tail) utf8_line ∙ ap (λ t. chars line ++ t) points)
          ∙ take_while-front (chars line) (b ∷ chars tail) (points_of_plain line utf8_line plain) (take_while-stop b (chars tail) stops),
      IsUtf8-drop (b ∷ tail) 1 utf8_behind (IsCharBoundary-after_ascii (b ∷ tail) 0 utf8_behind (omega arith) (let h : b < 128 = low in h)),
    )

ends_with : (line more rest : List ℕ) (b : ℕ) → b < 128 → passes b ≡ false → IsUtf8 ((line ++ b ∷ more) ++ rest) → HoldsNoLineEnd line → (take_while passes (chars ((line ++ b ∷ more) ++ rest)) ≡ chars line) × IsUtf8 (more ++ rest)
ends_with line more rest b low stops utf8 plain =
    let same : (line ++ b ∷ more) ++ rest ≡ line ++ b ∷ (more ++ rest) = append_assoc line (b ∷ more) rest in
    let parts = ends_at line (more ++ rest) b low stops (subst IsUtf8 same utf8) plain in
    (ap (λ bs. take_while passes (chars bs)) same ∙ parts.0, parts.1)

cut_line : (line end rest : List ℕ) → IsLineEnd end → IsUtf8 ((line ++ end) ++ rest) → HoldsNoLineEnd line → (take_while passes (chars ((line ++ end) ++ rest)) ≡ chars line) × IsUtf8 rest
cut_line line end rest (inl is) utf8 plain =
    subst (λ end. IsUtf8 ((line ++ end) ++ rest) → (take_while passes (chars ((line ++ end) ++ rest)) ≡ chars line) × IsUtf8 rest) (sym is) (λ utf8. ends_with line [] rest 10 (omega arith) refl utf8 plain) utf8
cut_line line end rest (inr (inl is)) utf8 plain =
    subst (λ end. IsUtf8 ((line ++ end) ++ rest) → (take_while passes (chars ((line ++ end) ++ rest)) ≡ chars line) × IsUtf8 rest) (sym is)
    (λ utf8. let parts = ends_with line (10 ∷ []) rest 13 (omega arith) refl utf8 plain in (parts.0, (ends_at [] rest 10 (omega arith) refl parts.1 (All-nil IsPlain)).1)) utf8
cut_line line end rest (inr (inr is)) utf8 plain =
    subst (λ end. IsUtf8 ((line ++ end) ++ rest) → (take_while passes (chars ((line ++ end) ++ rest)) ≡ chars line) × IsUtf8 rest) (sym is) (λ utf8. ends_with line [] rest 13 (omega arith) refl utf8 plain) utf8

last_line : (line : List ℕ) → IsUtf8 line → HoldsNoLineEnd line → take_while passes (chars line) ≡ chars line
last_line line utf8 plain = ap (take_while passes) (sym (append-nil (chars line))) ∙ take_while-front (chars line) [] (points_of_plain line utf8 plain) refl

-- The lines that begin at the starts have the code points of the lines of the cut.
pub line_at-starts_from : (text front rest : List ℕ) (place : ℕ) (ended : List EndedLine) (last : List ℕ) → text ≡ front ++ rest → length front ≡ place → IsUtf8 rest → IsCut rest ended last → map (line_at text) (starts_from place ended) ≡ map chars (lines_of ended last)
line_at-starts_from text front rest place [] last text_is at utf8 cut =
    let rest_is : drop place text ≡ rest = ap (drop place) text_is ∙ drop_at front rest place at in
    ap (λ l. l ∷ []) (ap (λ bs. take_while passes (chars bs)) rest_is ∙ last_line rest utf8 (subst HoldsNoLineEnd (sym cut.0) cut.1) ∙ ap chars cut.0)
line_at-starts_from text front rest place (first ∷ others) last text_is at utf8 cut =
    let rest_is : drop place text ≡ rest = ap (drop place) text_is ∙ drop_at front rest place at in
    let parts = cut_line first.line first.end cut.0 cut.3 (subst IsUtf8 cut.1 utf8) cut.2 in
    let here : line_at text place ≡ chars first.line = ap (λ bs. take_while passes (chars bs)) (rest_is ∙ cut.1) ∙ parts.0 in
    let text_is' : text ≡ (front ++ line_and_end first) ++ cut.0 = text_is ∙ ap (λ t. front ++ t) cut.1 ∙ sym (append_assoc front (line_and_end first) cut.0) in
    let at' : length (front ++ line_and_end first) ≡ place + length (line_and_end first) = length-append front (line_and_end first) ∙ ap (λ n. n + length (line_and_end first)) at in
    let behind = line_at-starts_from text (front ++ line_and_end first) cut.0 (place + length (line_and_end first)) others last text_is' at' parts.1 cut.5 in
    λ i. here i ∷ behind i
