-- Where lines begin.
use Rattle.std.proofs.Common.{◌≡◌, ℕ, ◌+◌, ◌-◌, ◌<◌, suc, zero, Bool, true, false, not, cond, ◌&&◌, ◌||◌, List, [], ◌∷◌, ◌++◌, length, take, drop, filter, get_or, eqb, Option, Some, None, IfSome, slice_get, ◌⊎◌, inl, inr, subst, refl, sym, ap, ◌∙◌, arith}
use Rattle.std.specs.Char.{encode_utf8, len_utf8}
use Rattle.std.specs.List.{All, prefix_len, range_with_len, take_while}
use Rattle.std.specs.Str.{chars, IsCharBoundary, IsUtf8}
use Rattle.std.proofs.lemmas.Bool.{cases_lt, eqb-true}
use Rattle.std.proofs.lemmas.List.{get_or_past, nil_from_length}
use Rattle.std.proofs.lemmas.List.Elements.{All-same, filter_passes, filter-append}
use Rattle.std.proofs.lemmas.Option.{get_or_from_slice_get, slice_get_within}
use Rattle.std.proofs.lemmas.Str.{chars-nil, chars_past_char, drop_past_char, IsCharBoundary-after_ascii, IsCharBoundary-start, IsUtf8-drop}
use Rattle.wse_text.specs.Place.{ends_line, begins_line, line_starts, line_at}

-- What stands behind an ASCII byte that isn't NUL may be cut off there.
behind_byte : (text : List ℕ) (i b : ℕ) → IsUtf8 text → get_or text i 0 ≡ b → 0 < b → b < 128 → IsCharBoundary text (i + 1)
behind_byte text i b utf8 is low high = elim (cases_lt i (length text)) [
  | inl within ↦ IsCharBoundary-after_ascii text i utf8 within (omega arith)
  | inr past ↦ absurd (let none = get_or_past text i 0 past in omega arith)
]

one_of_three : (x y z w : Bool) → (x || y || (z && w)) ≡ true → (x ≡ true) ⊎ ((y ≡ true) ⊎ (z ≡ true))
one_of_three true y z w h = inl refl
one_of_three false true z w h = inr (inl refl)
one_of_three false false true w h = inr (inr refl)
one_of_three false false false w h = cc

-- A line begins between two characters.
begins_line_boundary : (text : List ℕ) (place : ℕ) → IsUtf8 text → begins_line text place ≡ true → IsCharBoundary text place
begins_line_boundary text zero utf8 begins = IsCharBoundary-start text utf8
begins_line_boundary text (suc i) utf8 begins =
    let behind : (b : ℕ) → eqb (get_or text (suc i - 1) 0) b ≡ true → 0 < b → b < 128 → IsCharBoundary text (suc i) =
    λ b is low high. subst (IsCharBoundary text) {x = i + 1} (omega arith) (behind_byte text i b utf8 (ap (λ k. get_or text k 0) {x = i} (omega arith) ∙ eqb-true _ _ is) low high) in
    elim (one_of_three _ _ _ _ begins) [
      | inl start ↦ absurd (let none = eqb-true (suc i) 0 start in omega arith)
      | inr (inl feed) ↦ behind 10 feed (omega arith) (omega arith)
      | inr (inr return) ↦ behind 13 return (omega arith) (omega arith)
    ]

pub line_start_boundary : (text : List ℕ) (line : ℕ) (start : Option ℕ) → IsUtf8 text → start ≡ slice_get (line_starts text) line → IfSome start (IsCharBoundary text)
line_start_boundary text line None utf8 is = tt
line_start_boundary text line (Some place) utf8 is =
    let begins : begins_line text (get_or (line_starts text) line 0) ≡ true = filter_passes (begins_line text) (range_with_len 0 (length text + 1)) line 0 (slice_get_within (line_starts text) line place (sym is)) in
    begins_line_boundary text place utf8 (ap (begins_line text) (sym (get_or_from_slice_get (line_starts text) line place 0 (sym is))) ∙ begins)

-- A line is at its end where the text is, and at a line end.
pub line_at_text_end : (text : List ℕ) (place : ℕ) → length (drop place text) ≡ 0 → line_at text place ≡ []
line_at_text_end text place none = ap (λ rest. take_while (λ c. not (ends_line c)) (chars rest)) (nil_from_length (drop place text) none) ∙ ap (take_while (λ c. not (ends_line c))) chars-nil

chars_from : (text rest : List ℕ) (place c : ℕ) → IsUtf8 text → IsCharBoundary text place → drop place text ≡ encode_utf8 c ++ rest → chars (drop place text) ≡ c ∷ chars rest
chars_from text rest place c utf8 boundary next = chars_past_char (drop place text) rest c (IsUtf8-drop text place utf8 boundary) next

pub line_at_line_end : (text rest : List ℕ) (place c : ℕ) → IsUtf8 text → IsCharBoundary text place → drop place text ≡ encode_utf8 c ++ rest → ends_line c ≡ true → line_at text place ≡ []
line_at_line_end text rest place c utf8 boundary next end =
    ap (take_while (λ c. not (ends_line c))) (chars_from text rest place c utf8 boundary next)
    ∙ ap (λ b. take (cond (not b) (1 + prefix_len (λ c. not (ends_line c)) (chars rest)) 0) (c ∷ chars rest)) end

pub line_at-cons : (text rest : List ℕ) (place c : ℕ) → IsUtf8 text → IsCharBoundary text place → drop place text ≡ encode_utf8 c ++ rest → ends_line c ≡ false → line_at text place ≡ c ∷ line_at text (place + len_utf8 c)
line_at-cons text rest place c utf8 boundary next on =
    let n = prefix_len (λ c. not (ends_line c)) (chars rest) in
    ap (take_while (λ c. not (ends_line c))) (chars_from text rest place c utf8 boundary next)
    ∙ ap (λ b. take (cond (not b) (1 + n) 0) (c ∷ chars rest)) on
    ∙ ap (λ k. take k (c ∷ chars rest)) {x = 1 + n} {y = suc n} (omega arith)
    ∙ ap (λ behind. c ∷ take_while (λ c. not (ends_line c)) (chars behind)) (sym (drop_past_char text rest place c next))

range_more : (a n k : ℕ) → a + n ≡ k → range_with_len a (suc n) ≡ range_with_len a n ++ k ∷ []
range_more a zero k is = ap (λ j. j ∷ []) {x = a} {y = k} (omega arith)
range_more a (suc n) k is = ap (λ ks. a ∷ ks) (range_more (a + 1) n k (omega arith))

-- The starts of lines among one place more.
pub starts_more : (text : List ℕ) (place : ℕ) (b : Bool) → b ≡ begins_line text place → filter (begins_line text) (range_with_len 0 (place + 1)) ≡ filter (begins_line text) (range_with_len 0 place) ++ cond b (place ∷ []) []
starts_more text place b is =
    ap (λ n. filter (begins_line text) (range_with_len 0 n)) {x = place + 1} {y = suc place} (omega arith)
    ∙ ap (filter (begins_line text)) (range_more 0 place place (omega arith))
    ∙ filter-append (begins_line text) (range_with_len 0 place) (place ∷ [])
    ∙ ap (λ b. filter (begins_line text) (range_with_len 0 place) ++ cond b (place ∷ []) []) (sym is)

-- Each line begins between two characters.
pub starts_boundaries : (text starts : List ℕ) → IsUtf8 text → starts ≡ line_starts text → All (IsCharBoundary text) starts
starts_boundaries text starts utf8 same =
    All-same (IsCharBoundary text) starts (line_starts text) same (λ k d low. begins_line_boundary text (get_or (line_starts text) k d) utf8 (filter_passes (begins_line text) (range_with_len 0 (length text + 1)) k d low))
