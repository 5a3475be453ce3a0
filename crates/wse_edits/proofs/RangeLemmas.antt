-- Ranges between two places of a text.
use Rattle.std.proofs.Common.{ℕ, List, All, Option, Some, None, IfSome, min, max, inl, inr, subst, arith}
use Rattle.std.specs.Str.{IsCharBoundary}
use Rattle.std.proofs.lemmas.Bool.{cases_lt}
use Rattle.std.proofs.lemmas.List.Elements.{All-weaker}
use Rattle.wse_edits.specs.declared.range.TextRange.{TextRange}
use Rattle.wse_edits.specs.Range.{IsRangeOf, Rises}

module _ (text : List ℕ) where
  rises : (range : Option TextRange) → IfSome range (IsRangeOf text) → IfSome range Rises
  rises None is = tt
  rises (Some r) is = is.0

  pub All-rise : (ranges : List (Option TextRange)) → All (λ (range : Option TextRange). IfSome range (IsRangeOf text)) ranges → All (λ (range : Option TextRange). IfSome range Rises) ranges
  All-rise ranges all = All-weaker (λ (range : Option TextRange). IfSome range (IsRangeOf text)) (λ (range : Option TextRange). IfSome range Rises) rises ranges all

  -- The range between two such places.
  pub IsRangeOf-between : (a b : ℕ) → IsCharBoundary text a → IsCharBoundary text b → IsRangeOf text (record { start = min a b; end = max a b })
  IsRangeOf-between a b at_a at_b = elim (cases_lt a b) [
    | inl lower ↦ (omega arith, subst (IsCharBoundary text) {x = a} {y = min a b} (omega arith) at_a, subst (IsCharBoundary text) {x = b} {y = max a b} (omega arith) at_b)
    | inr upper ↦ (omega arith, subst (IsCharBoundary text) {x = b} {y = min a b} (omega arith) at_b, subst (IsCharBoundary text) {x = a} {y = max a b} (omega arith) at_a)
  ]
