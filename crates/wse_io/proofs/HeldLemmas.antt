-- The first line end, where a front was searched already.
use Rattle.std.proofs.Common.{◌≡◌, ℕ, zero, suc, ◌+◌, ◌≤◌, Bool, true, false, List, [], ◌∷◌, ◌++◌, length, drop, ◌-◌, not, cond, Some, None, position, refl, sym, ap, ◌∙◌, arith, length-drop, length-append}
use Rattle.std.specs.List.{prefix_len, position_or_len}
use Rattle.std.proofs.lemmas.Bool.{ltb-true, ltb-false, lt-ltb, le-ltb}
use Rattle.std.proofs.lemmas.List.{drop-drop}
use Rattle.std.proofs.lemmas.List.Sums.{prefix_len-le-length}
use Rattle.wse_io.specs.Held.{IsSearched}
use Rattle.wse_io.specs.Lines.{is_line_end}

prefix_from : (p : ℕ → Bool) (k : ℕ) (xs : List ℕ) → k ≤ prefix_len p xs → prefix_len p xs ≡ k + prefix_len p (drop k xs)
prefix_from p zero xs h = omega arith
prefix_from p (suc k) [] h = absurd (omega arith)
prefix_from p (suc k) (x ∷ xs) h = at (p x) h (λ le. prefix_from p k xs le)
  where
    at : (b : Bool) → suc k ≤ cond b (1 + prefix_len p xs) 0 → (k ≤ prefix_len p xs → prefix_len p xs ≡ k + prefix_len p (drop k xs)) → cond b (1 + prefix_len p xs) 0 ≡ suc k + prefix_len p (drop k xs)
    at true le rest = let same = rest (omega arith) in omega arith
    at false le rest = absurd (omega arith)

some_at : (t : Bool) (n at : ℕ) → cond t (Some n) None ≡ Some at → (t ≡ true) × (n ≡ at)
some_at true n at e = (refl, cc)
some_at false n at e = cc

none_at : (t : Bool) (n : ℕ) → cond t (Some n) None ≡ None → t ≡ false
none_at true n e = cc
none_at false n e = refl

prefix-append : (p : ℕ → Bool) (xs ys : List ℕ) → prefix_len p xs ≤ prefix_len p (xs ++ ys)
prefix-append p [] ys = omega arith
prefix-append p (x ∷ xs) ys = at (p x) (prefix-append p xs ys)
  where
    at : (b : Bool) → prefix_len p xs ≤ prefix_len p (xs ++ ys) → cond b (1 + prefix_len p xs) 0 ≤ cond b (1 + prefix_len p (xs ++ ys)) 0
    at true rest = omega arith
    at false rest = omega arith

-- Where a front has no line end, the first of the rest is the first of all.
position_found : (k at : ℕ) (bytes : List ℕ) → k ≤ position_or_len is_line_end bytes → position is_line_end (drop k bytes) ≡ Some at → (position is_line_end bytes ≡ Some (k + at)) × (position_or_len is_line_end bytes ≡ k + at)
position_found k at bytes h found =
    let got = some_at _ _ at found in
    let full : position_or_len is_line_end bytes ≡ k + at = prefix_from (λ b. not (is_line_end b)) k bytes h ∙ ap (λ n. k + n) got.1 in
    let within = ltb-true _ _ got.0 in
    (ap (λ t. cond t (Some (position_or_len is_line_end bytes)) None) (lt-ltb _ _ (omega (arith, within, got.1, length-drop k bytes))) ∙ ap Some full, full)

position_none : (k : ℕ) (bytes : List ℕ) → k ≤ position_or_len is_line_end bytes → position is_line_end (drop k bytes) ≡ None → (position is_line_end bytes ≡ None) × (position_or_len is_line_end bytes ≡ length bytes)
position_none k bytes h found =
    let past = ltb-false _ _ (none_at _ _ found) in
    let full = prefix_from (λ b. not (is_line_end b)) k bytes h in
    let most = prefix_len-le-length (λ b. not (is_line_end b)) bytes in
    (ap (λ t. cond t (Some (position_or_len is_line_end bytes)) None) (le-ltb _ _ (omega (arith, past, full, most, length-drop k bytes))), omega (arith, past, full, most, length-drop k bytes))

module _ (bytes : List ℕ) (start searched : ℕ) (s : IsSearched bytes start searched) where
  rest_is : drop searched bytes ≡ drop (searched - start) (drop start bytes)
  rest_is = ap (λ n. drop n bytes) {x = searched} {y = start + (searched - start)} (omega (arith, s.order)) ∙ sym (drop-drop (searched - start) start bytes)

  -- A line ends in the part that was not searched yet.
  pub searched_found : (at : ℕ) → position is_line_end (drop searched bytes) ≡ Some at → IsSearched bytes start (searched + at) × (position is_line_end (drop start bytes) ≡ Some (searched + at - start))
  searched_found at found =
      let got = position_found (searched - start) at (drop start bytes) (omega (arith, s.order, s.none)) (ap (position is_line_end) (sym rest_is) ∙ found) in
      let most = prefix_len-le-length (λ b. not (is_line_end b)) (drop start bytes) in (
        record { order = omega (arith, s.order); within = omega (arith, s.order, s.within, most, got.1, length-drop start bytes); none = omega (arith, s.order, got.1) },
        got.0 ∙ ap (λ n. Some n) {x = searched - start + at} {y = searched + at - start} (omega (arith, s.order)),
      )

  -- No line ends at all.
  pub searched_none : position is_line_end (drop searched bytes) ≡ None → IsSearched bytes start (length bytes) × (position is_line_end (drop start bytes) ≡ None)
  searched_none found =
      let got = position_none (searched - start) (drop start bytes) (omega (arith, s.order, s.none)) (ap (position is_line_end) (sym rest_is) ∙ found) in
      (record { order = omega (arith, s.order, s.within); within = omega arith; none = omega (arith, s.order, s.within, got.1, length-drop start bytes) }, got.0)

  -- What stands before the start is left behind, and more comes in.
  pub searched_more : (more : List ℕ) → IsSearched (drop start bytes ++ more) 0 (searched - start)
  searched_more more =
      let stays = prefix-append (λ b. not (is_line_end b)) (drop start bytes) more in record {
        order = omega arith;
        within = omega (arith, s.within, length-drop start bytes, length-append (drop start bytes) more);
        none = omega (arith, s.order, s.none, stays);
      }
