-- The lines of bytes, and of what follows them.
use Rattle.std.proofs.Common.{◌≡◌, ℕ, zero, suc, ◌+◌, ◌-◌, ◌<◌, ◌≤◌, Bool, true, false, List, [], ◌∷◌, ◌++◌, length, take, drop, All, get_or, not, cond, Some, None, position, nat_lt, refl, sym, ap, subst, ◌∙◌, append_assoc, arith}
use Rattle.std.specs.List.{slice_split, position_or_len}
use Rattle.std.proofs.lemmas.Bool.{eqb-true, ltb-false}
use Rattle.std.proofs.lemmas.List.{append-nil, take-append-drop, drop_more, get_or-take, get_or_default, length-take-le}
use Rattle.std.proofs.lemmas.List.Quantifiers.{position-Some}
use Rattle.std.proofs.lemmas.List.Sums.{prefix_len_passes}
use Rattle.std.proofs.lemmas.List.Splits.{slice_split_none, slice_split_at, length-slice_split}
use Rattle.std.proofs.lemmas.List.Elements.{All-nil, All-append}
use Rattle.wse_io.specs.Lines.{is_line_end, last_line, lines_among, lines, Cuts}

-- No line ends among the bytes.
unfoldable pub NoEnd : List ℕ → Type 0
NoEnd bytes = All (λ b. is_line_end b ≡ false) bytes

pub take-nil : (n : ℕ) → take {A = ℕ} n [] ≡ []
take-nil zero = refl
take-nil (suc n) = refl

-- A front of two lists.
pub take_split : (n : ℕ) (xs ys : List ℕ) → take n (xs ++ ys) ≡ take n xs ++ take (n - length xs) ys
take_split n [] ys = ap (λ m. take m ys) {x = n} {y = n - 0} (omega arith) ∙ ap (λ l. l ++ take (n - 0) ys) (sym (take-nil n))
take_split zero (x ∷ xs) ys = ap (λ m. take m ys) {x = 0} {y = 0 - suc (length xs)} (omega arith)
take_split (suc n) (x ∷ xs) ys =
    ap (λ l. x ∷ l) (take_split n xs ys) ∙ ap (λ m. x ∷ take n xs ++ take m ys) {x = n - length xs} {y = suc n - suc (length xs)} (omega arith)

pub no_end-nil : NoEnd []
unfolding NoEnd
no_end-nil = All-nil (λ b. is_line_end b ≡ false)

pub no_end-append : (xs ys : List ℕ) → NoEnd xs → NoEnd ys → NoEnd (xs ++ ys)
unfolding NoEnd
no_end-append xs ys f g = All-append (λ b. is_line_end b ≡ false) xs ys f g

among-cons : (piece : List ℕ) (pieces : List (List ℕ)) (over : Bool) → 1 ≤ length pieces → lines_among (piece ∷ pieces) over ≡ piece ∷ lines_among pieces over
unfolding lines_among
among-cons piece [] over h = absurd (omega arith)
among-cons piece (next ∷ pieces) over h = refl

-- A line ends, and the others follow.
pub lines-cons : (line rest : List ℕ) (over : Bool) → NoEnd line → lines (line ++ 10 ∷ rest) over ≡ line ∷ lines rest over
unfolding lines NoEnd
lines-cons line rest over none =
    ap (λ pieces. lines_among pieces over) (slice_split_at is_line_end line 10 rest none refl)
    ∙ among-cons line (slice_split is_line_end rest) over (omega (arith, length-slice_split is_line_end rest))

-- No line ends: the bytes are a line where the input is over and there are some.
pub lines_last : (bytes : List ℕ) (over : Bool) → NoEnd bytes → lines bytes over ≡ last_line bytes over
unfolding lines lines_among NoEnd
lines_last bytes over none = ap (λ pieces. lines_among pieces over) (slice_split_none is_line_end bytes none)

last_line-open : (bytes : List ℕ) → last_line bytes false ≡ []
last_line-open [] = refl
last_line-open (b ∷ bytes) = refl

pub lines_open : (bytes : List ℕ) → NoEnd bytes → lines bytes false ≡ []
lines_open bytes none = lines_last bytes false none ∙ last_line-open bytes

pub lines-nil : (over : Bool) → lines [] over ≡ []
lines-nil over = lines_last [] over no_end-nil

-- A line ends where `position` finds the byte.
pub record EndsAt (bytes : List ℕ) (end : ℕ) : Type 0 where
  pub within : end < length bytes
  pub none : NoEnd (take end bytes)
  pub cut : bytes ≡ take end bytes ++ 10 ∷ drop (end + 1) bytes

pub ends_at : (bytes : List ℕ) (end : ℕ) → position is_line_end bytes ≡ Some end → EndsAt bytes end
unfolding NoEnd
ends_at bytes end found =
    let at = position-Some is_line_end bytes end 0 found in
    let here : get_or bytes end 0 ≡ 10 = eqb-true (get_or bytes end 0) 10 at.1 in
    record {
      within = at.0;
      none = λ k d before.
          let below : k < end = omega (arith, before, length-take-le end bytes (omega (arith, at.0))) in
          ap is_line_end (get_or-take end bytes k d below ∙ get_or_default bytes k d 0 (omega (arith, at.0))) ∙ at.2 k below;
      cut = sym (take-append-drop end bytes) ∙ ap (λ l. take end bytes ++ l) (drop_more bytes end 0 at.0 ∙ ap (λ b. b ∷ drop (end + 1) bytes) here);
    }

pub found_or_none : (bytes : List ℕ) (end : ℕ) → position is_line_end bytes ≡ Some end → NoEnd bytes → ⊥
unfolding NoEnd
found_or_none bytes end found none =
    let at = position-Some is_line_end bytes end 0 found in
    let same : true ≡ false = sym at.1 ∙ none end 0 at.0 in cc

passes_not : (b : Bool) → not b ≡ true → b ≡ false
passes_not true h = cc
passes_not false h = refl

none_before : (bytes : List ℕ) (t : Bool) → t ≡ nat_lt (position_or_len is_line_end bytes) (length bytes) → cond t (Some (position_or_len is_line_end bytes)) None ≡ None → NoEnd bytes
unfolding NoEnd
none_before bytes true e found = cc
none_before bytes false e found = λ k d before. passes_not (is_line_end (get_or bytes k d))
    (prefix_len_passes (λ b. not (is_line_end b)) bytes k d (omega (arith, before, ltb-false (position_or_len is_line_end bytes) (length bytes) (sym e))))

pub no_end_from : (bytes : List ℕ) → position is_line_end bytes ≡ None → NoEnd bytes
no_end_from bytes found = none_before bytes (nat_lt (position_or_len is_line_end bytes) (length bytes)) refl found

-- Nothing is handed out yet.
pub cuts_none : (bytes : List ℕ) (over : Bool) → Cuts bytes [] bytes over
cuts_none bytes over = record { whole = λ more last follows. refl }

-- More bytes came behind what was held, and of all these more lines were handed out.
pub cuts_more : (bytes got held held' : List ℕ) (done next : List (List ℕ)) (over over' : Bool) → Cuts bytes done held over → (over ≡ true → (got ≡ []) × (over' ≡ true)) → Cuts (held ++ got) next held' over' → Cuts (bytes ++ got) (done ++ next) held' over'
cuts_more bytes got held held' done next over over' a later b = record {
  whole = λ more last follows.
      ap (λ l. lines l last) (append_assoc bytes got more)
      ∙ a.whole (got ++ more) last (λ o. let l = later o in let f = follows l.1 in (ap (λ g. g ++ more) l.0 ∙ f.0, f.1))
      ∙ ap (λ l. done ++ lines l last) (sym (append_assoc held got more))
      ∙ ap (λ l. done ++ l) (b.whole more last follows)
      ∙ sym (append_assoc done next (lines (held' ++ more) last));
}

-- The lines of all bytes, where nothing follows.
pub cuts_all : (bytes held : List ℕ) (done : List (List ℕ)) (over : Bool) → Cuts bytes done held over → lines bytes over ≡ done ++ lines held over
cuts_all bytes held done over a =
    ap (λ l. lines l over) (sym (append-nil bytes)) ∙ a.whole [] over (λ o. (refl, o)) ∙ ap (λ l. done ++ lines l over) (append-nil held)

-- A line is taken off with its end.
pub cuts_line : (line rest : List ℕ) (over : Bool) → NoEnd line → Cuts (line ++ 10 ∷ rest) (line ∷ []) rest over
cuts_line line rest over none = record { whole = λ more last follows. ap (λ l. lines l last) (append_assoc line (10 ∷ rest) more) ∙ lines-cons line (rest ++ more) last none }

-- The last piece is taken off where the input is over.
pub cuts_last : (bytes : List ℕ) → NoEnd bytes → 0 < length bytes → Cuts bytes (bytes ∷ []) [] true
cuts_last [] none some = absurd (omega arith)
cuts_last (b ∷ bytes) none some = record {
  whole = λ more last follows.
      let f = follows refl in
      let base : lines ((b ∷ bytes) ++ []) true ≡ (b ∷ bytes) ∷ lines [] true =
      ap (λ l. lines l true) (append-nil (b ∷ bytes)) ∙ lines_last (b ∷ bytes) true none ∙ ap (λ l. (b ∷ bytes) ∷ l) (sym (lines-nil true)) in
      subst (λ m. lines ((b ∷ bytes) ++ m) last ≡ (b ∷ bytes) ∷ lines m last) (sym f.0) (subst (λ o. lines ((b ∷ bytes) ++ []) o ≡ (b ∷ bytes) ∷ lines [] o) (sym f.1) base);
}
