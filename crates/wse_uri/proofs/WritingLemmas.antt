-- What is written of a path, and how it is read back.
use Rattle.std.proofs.Common.{◌≡◌, ◌≢◌, ℕ, ◌+◌, ◌-◌, ◌<◌, ◌≤◌, Bool, true, false, not, ◌==◌, nat_lt, Bor, List, [], ◌∷◌, ◌++◌, length, take, get_or, Option, Some, None, unwrap_or, MatchOption, option_copied, slice_get, IsSome, append_assoc, if◌then◌else◌, refl, sym, ap, ◌∙◌, arith, ⊎_elim}
use Rattle.std.specs.Io.BufRead.{ends_with_byte, strip_last}
use Rattle.std.proofs.lemmas.Bool.{agree_below_at, and_parts, cases_lt, eqb-true, lt-ltb, ltb-true}
use Rattle.std.proofs.lemmas.Bool.Decides.{nat_tests}
use Rattle.std.proofs.lemmas.List.{flat_map_more, get_or_push, length_push, take_all, take_at, take_more}
use Rattle.std.proofs.lemmas.Option.{get_or_from_slice_get, none-some, slice_get-get_or, slice_get_within}
use Rattle.percent_encoding.specs.AsciiSet.{should_percent_encode}
use Rattle.percent_encoding.specs.Percent.{percent_encode_byte, encode_byte, percent_encode}
use Rattle.wse_path.specs.Path.{Path}
use Rattle.wse_uri.specs.declared.writing.TheConstants.{ESCAPED}
use Rattle.wse_uri.specs.Writing.{is_unreserved, escaped_byte, escaped, escaped_path}

-- ---- the set of bytes to escape

outside : (b : ℕ) → 128 ≤ b → should_percent_encode ESCAPED b ≡ not (is_unreserved b)
unfolding should_percent_encode
outside b h = grind (arith, nat_tests)

ascii : (b : ℕ) → b < 128 → should_percent_encode ESCAPED b ≡ not (is_unreserved b)
unfolding should_percent_encode
ascii b h = agree_below_at (should_percent_encode ESCAPED) (λ b. not (is_unreserved b)) 128 b refl h

as_set : (b : ℕ) → should_percent_encode ESCAPED b ≡ not (is_unreserved b)
as_set b = ⊎_elim (ascii b) (outside b) (cases_lt b 128)

encode_byte-ESCAPED : (b : ℕ) → should_percent_encode ESCAPED b ≡ not (is_unreserved b) → encode_byte ESCAPED b ≡ escaped_byte b
encode_byte-ESCAPED b e = rw e (elim (is_unreserved b) as (λ t. (if not t then percent_encode_byte b else b ∷ []) ≡ (if t then b ∷ [] else percent_encode_byte b)) [ true ↦ refl | false ↦ refl ])

pub percent_encode-ESCAPED : (s : List ℕ) → percent_encode ESCAPED s ≡ escaped s
unfolding percent_encode
percent_encode-ESCAPED [] = refl
percent_encode-ESCAPED (b ∷ s) = ap (λ x. x ++ percent_encode ESCAPED s) (encode_byte-ESCAPED b (as_set b)) ∙ ap (λ x. escaped_byte b ++ x) (percent_encode-ESCAPED s)

-- ---- one final slash

-- a text and its last byte
pub last_byte : (xs : List ℕ) → 0 < length xs → xs ≡ take (length xs - 1) xs ++ get_or xs (length xs - 1) 0 ∷ []
last_byte xs some = sym (take_all (length xs - 1 + 1) xs (omega arith)) ∙ take_more xs (length xs - 1) 0 (omega arith)

pub ends_at : (xs : List ℕ) → ends_with_byte 47 xs ≡ true → xs ≡ take (length xs - 1) xs ++ 47 ∷ []
ends_at xs h =
    let parts = and_parts (nat_lt 0 (length xs)) (get_or xs (length xs - 1) 0 == 47) h in
    last_byte xs (ltb-true 0 (length xs) parts.0) ∙ ap (λ b. take (length xs - 1) xs ++ b ∷ []) (eqb-true _ 47 parts.1)

pub strip_last-slash : (xs : List ℕ) → strip_last 47 (xs ++ 47 ∷ []) ≡ xs
strip_last-slash xs =
    let last : get_or (xs ++ 47 ∷ []) (length (xs ++ 47 ∷ []) - 1) 0 ≡ 47 = get_or_push xs 47 0 (length (xs ++ 47 ∷ []) - 1) (omega (arith, length_push xs 47)) in
    rw (lt-ltb 0 (length (xs ++ 47 ∷ [])) (omega (arith, length_push xs 47)), last) (take_at xs (47 ∷ []) (length (xs ++ 47 ∷ []) - 1) (omega (arith, length_push xs 47)))

no_slash_at : (xs : List ℕ) (b : Bool) → ends_with_byte 47 xs ≡ b → ((front : List ℕ) → xs ≢ front ++ 47 ∷ []) → (if b then take (length xs - 1) xs else xs) ≡ xs
no_slash_at xs true e h = absurd (h (take (length xs - 1) xs) (ends_at xs e))
no_slash_at xs false e h = refl

pub strip_last-other : (xs : List ℕ) → ((front : List ℕ) → xs ≢ front ++ 47 ∷ []) → strip_last 47 xs ≡ xs
strip_last-other xs h = no_slash_at xs (ends_with_byte 47 xs) refl h

-- what `strip_suffix` of the slash gives, or else the text
pub strip_last-suffix : (xs : List ℕ) (r : Option (Bor (List ℕ))) (d : Bor (List ℕ)) → d.now ≡ xs → MatchOption r ((front : List ℕ) → xs ≢ front ++ 47 ∷ []) (λ x. xs ≡ x.now ++ 47 ∷ []) → (unwrap_or r d).now ≡ strip_last 47 xs
strip_last-suffix xs None d e h = e ∙ sym (strip_last-other xs h)
strip_last-suffix xs (Some x) d e h = sym (ap (strip_last 47) h ∙ strip_last-slash x.now)

-- ---- the segments one after another

pub is_there : (path : Path) (i : ℕ) (r : Option (Bor (List ℕ))) → option_copied r ≡ slice_get path i → i < length path → IsSome r
is_there path i None e h = absurd (none-some (get_or path i []) (e ∙ slice_get-get_or path i [] h))
is_there path i (Some x) e h = refl

-- one segment more
pub uri_next : (front : List ℕ) (path : Path) (i : ℕ) (segment : List ℕ) → slice_get path i ≡ Some segment → front ++ escaped_path (take i path) ++ 47 ∷ [] ++ escaped segment ≡ front ++ escaped_path (take (i + 1) path)
uri_next front path i segment e =
    let within = slice_get_within path i segment e in
    append_assoc (front ++ escaped_path (take i path)) (47 ∷ []) (escaped segment)
    ∙ flat_map_more (λ s. 47 ∷ escaped s) front (take i path) segment
    ∙ ap (λ ss. front ++ escaped_path ss) (ap (λ s. take i path ++ s ∷ []) (sym (get_or_from_slice_get path i segment [] e)) ∙ sym (take_more path i [] within))
