-- Edits that lie inside a code point, looked for one after another.
use Rattle.std.proofs.Common.{◌≡◌, ℕ, ◌+◌, ◌<◌, ◌≤◌, List, length, get_or, Option, Some, None, inl, inr, sym, ap, ◌∙◌, arith}
use Rattle.std.specs.Option.{option_and_then, option_map}
use Rattle.std.proofs.lemmas.Bool.{cases_lt}
use Rattle.std.proofs.lemmas.Option.{slice_get-get_or}
use Rattle.wse_path.specs.declared.position.Encoding.{Encoding}
use Rattle.wse_path.specs.declared.position.TextEdit.{TextEdit}
use Rattle.wse_text.specs.declared.place.Inside as place
use Rattle.wse_edits.specs.declared.refused.EditsRefused.{EditsRefused}
use Rattle.wse_edits.specs.declared.refused.EditsRefused.TheVariants.{Inside}
use Rattle.wse_edits.specs.Refusal.{inside_error, inside_at, inside_of}
use Rattle.wse_edits.proofs.SearchLemmas.{range_none, range_first}

module _ (text : List ℕ) (enc : Encoding) (edits : List TextEdit) where
  -- No edit before that number lies inside a code point.
  abbrev pub IsClearBefore : ℕ → Type 0
  IsClearBefore n = (number : ℕ) → number < n → inside_at text enc edits number ≡ None

  inside_at-is : (number : ℕ) (edit : TextEdit) (o : Option place.Inside) → number < length edits → edit ≡ get_or edits number edit → inside_error text enc edit ≡ o → inside_at text enc edits number ≡ option_map (λ e. Inside number e.char_start) o
  inside_at-is number edit o low is answer =
      let said : Option place.Inside → Option EditsRefused = option_map (λ (e : place.Inside). Inside number e.char_start) in
      ap (λ there. said (option_and_then (inside_error text enc) there)) (slice_get-get_or edits number edit low ∙ ap Some (sym is)) ∙ ap said answer

  pub inside_of-first : (number : ℕ) (edit : TextEdit) (e : place.Inside) → number < length edits → IsClearBefore number → edit ≡ get_or edits number edit → inside_error text enc edit ≡ Some e → inside_of text enc edits ≡ Some (Inside number e.char_start)
  inside_of-first number edit e low clear is found =
      range_first (inside_at text enc edits) 0 (length edits) number (Inside number e.char_start) (omega arith) (omega arith) (λ j above below. clear j below) (inside_at-is number edit (Some e) low is found)

  pub inside_of-none : (n : ℕ) → length edits ≤ n → IsClearBefore n → inside_of text enc edits ≡ None
  inside_of-none n all clear = range_none (inside_at text enc edits) 0 (length edits) (λ j above below. clear j (omega arith))

  pub IsClearBefore-more : (n : ℕ) (edit : TextEdit) → n < length edits → IsClearBefore n → edit ≡ get_or edits n edit → inside_error text enc edit ≡ None → IsClearBefore (n + 1)
  IsClearBefore-more n edit low clear is none = λ number before. elim (cases_lt number n) [
    | inl lower ↦ clear number lower
    | inr here ↦ ap (inside_at text enc edits) {x = number} {y = n} (omega arith) ∙ inside_at-is n edit None low is none
  ]
