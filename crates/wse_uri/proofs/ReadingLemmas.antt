-- Segments that are text, and segments behind a root's.
use Rattle.std.proofs.Common.{◌≡◌, ℕ, ◌+◌, ◌<◌, Bool, true, false, not, List, [], ◌∷◌, ◌++◌, length, map, take, drop, get_or, IsUtf8, Some, None, Vec, refl, sym, ap, ◌∙◌, arith, length-append, append-nil}
use Rattle.std.specs.Cmp.Lexicographic.{pointwise, lists_equiv, nat_list_eq_equiv}
use Rattle.std.specs.Cmp.Derive.Mapped.{pointwise-map}
use Rattle.std.specs.List.{All, AllByRecursion, prefix_len, starts_with}
use Rattle.std.specs.Str.{is_utf8, bytes_eq}
use Rattle.std.proofs.lemmas.Bool.{lt-ltb, le-ltb}
use Rattle.std.proofs.lemmas.List.{drop-map, length-map, take-map, map-append, length-take-le, take-append-drop, drop_more}
use Rattle.std.proofs.lemmas.List.Elements.{All-map, recursion_from_All}
use Rattle.std.proofs.lemmas.Str.{IsUtf8-from_is_utf8, is_utf8-from_IsUtf8}
use Rattle.wse_uri.specs.Segments.{bytes_in}
use Rattle.wse_uri.specs.Reading.{first_escape, path_from, path_below}

no_text_at : (bs : List ℕ) (b : Bool) → is_utf8 bs ≡ b → ¬ IsUtf8 bs → b ≡ false
no_text_at bs true e h = absurd (h (IsUtf8-from_is_utf8 bs e))
no_text_at bs false e h = refl

no_text : (bs : List ℕ) → ¬ IsUtf8 bs → is_utf8 bs ≡ false
no_text bs h = no_text_at bs (is_utf8 bs) refl h

-- how many segments are text from the front on
abbrev texts_len : List (List ℕ) → ℕ
texts_len ss = prefix_len (λ s. not (not (is_utf8 s))) ss

texts_len-append : (xs ys : List (List ℕ)) → AllByRecursion IsUtf8 xs → texts_len (xs ++ ys) ≡ length xs + texts_len ys
texts_len-append [] ys h = omega arith
texts_len-append (x ∷ xs) ys h = rw (is_utf8-from_IsUtf8 x h.0) (omega (arith, texts_len-append xs ys h.1))

-- where each segment is text, none is named
pub first_escape-none : (xs : List (List ℕ)) → All IsUtf8 xs → first_escape xs ≡ None
first_escape-none xs h =
    let all : texts_len xs ≡ length xs = ap texts_len (sym (append-nil xs)) ∙ texts_len-append xs [] (recursion_from_All IsUtf8 xs h) ∙ omega arith in
    rw (le-ltb (texts_len xs) (length xs) (omega (arith, all))) refl

-- the first segment behind text that is none is named
first_escape-append : (xs ys : List (List ℕ)) (y : List ℕ) → All IsUtf8 xs → ¬ IsUtf8 y → first_escape (xs ++ y ∷ ys) ≡ Some (length xs)
first_escape-append xs ys y h n =
    let none : texts_len (y ∷ ys) ≡ 0 = rw (no_text y n) refl in
    let at : texts_len (xs ++ y ∷ ys) ≡ length xs = texts_len-append xs (y ∷ ys) (recursion_from_All IsUtf8 xs h) ∙ omega (arith, none) in
    rw (at, lt-ltb (length xs) (length (xs ++ y ∷ ys)) (omega (arith, length-append xs (y ∷ ys)))) refl

-- the same at a place of a list
pub first_escape-at : {A : Type 0} (ss : List (Vec ℕ A)) (i : ℕ) (d : Vec ℕ A) → i < length ss → All (λ s. IsUtf8 s.items) (take i ss) → ¬ IsUtf8 (get_or ss i d).items → first_escape (bytes_in ss) ≡ Some i
first_escape-at ss i d within h n =
    let items : Vec ℕ _ → List ℕ = λ s. s.items in
    let cut : ss ≡ take i ss ++ get_or ss i d ∷ drop (i + 1) ss = sym (take-append-drop i ss) ∙ ap (λ t. take i ss ++ t) (drop_more ss i d within) in
    ap (λ t. first_escape (map items t)) cut
    ∙ ap first_escape (map-append items (take i ss) (get_or ss i d ∷ drop (i + 1) ss))
    ∙ first_escape-append (map items (take i ss)) (map items (drop (i + 1) ss)) (items (get_or ss i d)) (All-map IsUtf8 items (take i ss) h) n
    ∙ ap Some (length-map (take i ss) items ∙ length-take-le i ss (omega arith))

-- `starts_with` of the bytes, as `strip_prefix` tests it
pub starts_with-items : {A : Type 0} (ss root : List (Vec ℕ A)) → starts_with bytes_eq (bytes_in ss) (bytes_in root) ≡ pointwise (λ x y. bytes_eq x.items y.items) (take (length root) ss) root
starts_with-items ss root =
    let items : Vec ℕ _ → List ℕ = λ s. s.items in
    ap (λ n. pointwise bytes_eq (map items root) (take n (map items ss))) (length-map root items)
    ∙ ap (pointwise bytes_eq (map items root)) (take-map items (length root) ss)
    ∙ (lists_equiv nat_list_eq_equiv).symm (map items root) (map items (take (length root) ss))
    ∙ pointwise-map items bytes_eq (take (length root) ss) root

-- what is left behind the root's segments is looked at
pub path_below-left : {A : Type 0} (ss root left : List (Vec ℕ A)) → pointwise (λ x y. bytes_eq x.items y.items) (take (length root) ss) root ≡ true → left ≡ drop (length root) ss → path_below (bytes_in root) (bytes_in ss) ≡ path_from (bytes_in left)
path_below-left ss root left h e =
    let rest : drop (length (bytes_in root)) (bytes_in ss) ≡ bytes_in left = ap (λ n. drop n (bytes_in ss)) (length-map root (λ s. s.items)) ∙ drop-map (λ s. s.items) (length root) ss ∙ ap (map (λ s. s.items)) (sym e) in
    rw (starts_with-items ss root, h) (ap path_from rest)
