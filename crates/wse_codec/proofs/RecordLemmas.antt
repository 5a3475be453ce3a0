-- Records: what is read is spelled so, and what is spelled so is read. So no two share a spelling.
use Rattle.std.proofs.Common.{◌≡◌, ℕ, eqb, List, [], ◌∷◌, ◌++◌, length, Option, None, Ok, refl, sym, ap, subst, ◌∙◌, append-nil, arith}
use Rattle.std.specs.List.{flat_map}
use Rattle.std.specs.Int.{w32, to_be_bytes}
use Rattle.std.proofs.lemmas.Bool.{eqb-true}
use Rattle.wse_element.specs.declared.effect.Effect.{Effect}
use Rattle.wse_codec.specs.Spelling.{effect_bytes, record_bytes}
use Rattle.wse_codec.specs.Allowed.{IsAllowedEffect, IsAllowedRecord}
use Rattle.wse_codec.specs.Pieces.{◌>>=◌, where_allowed, count_at, row_at, whole}
use Rattle.wse_codec.specs.Reading.{effect_at, record_at}
use Rattle.wse_codec.proofs.FieldLemmas.{IsBytes, IsPiece, Takes, then_takes, step, guarded, whole_ok, ok_is, byte, count}
use Rattle.wse_codec.proofs.RowLemmas.{Each, row, all_from_each, each_from_all, some_items, items_some}
use Rattle.wse_codec.proofs.EffectLemmas.{effect}

abbrev AllowedBehind : Option Effect → Effect → Type 0
AllowedBehind before effect = IsAllowedEffect effect

effects : (n : ℕ) → IsPiece (row_at (λ last. effect_at) None n) (flat_map effect_bytes) (λ vs. (length vs ≡ n) × Each AllowedBehind None vs)
effects n = row (λ before. effect) None n

-- bytes with nothing behind them
pub all_taken : (bytes text rest : List ℕ) → Takes bytes text rest → rest ≡ [] → bytes ≡ text
all_taken bytes text rest took none = took.parts ∙ ap (λ (r : List ℕ). text ++ r) none ∙ append-nil text

pub record_takes : (bytes : List ℕ) (effects : List Effect) → IsBytes bytes → record_at bytes ≡ Ok effects → IsAllowedRecord effects × (bytes ≡ record_bytes effects)
unfolding record_at record_bytes
record_takes bytes vs fits e =
    let a = step byte bytes (λ kind. where_allowed (eqb kind.0 1) bytes kind >>= λ known. count_at known.1 >>= λ count. row_at (λ last. effect_at) None count.0 count.1 >>= λ effects. whole effects) vs fits e in
    let g = guarded (eqb a.value 1) bytes (a.value, a.rest) (λ known. count_at known.1 >>= λ count. row_at (λ last. effect_at) None count.0 count.1 >>= λ effects. whole effects) vs a.goes_on in
    let b = step count a.rest (λ count. row_at (λ last. effect_at) None count.0 count.1 >>= λ effects. whole effects) vs a.took.rest_fits g.1 in
    let c = step (effects b.value) b.rest (λ effects. whole effects) vs b.took.rest_fits b.goes_on in
    let h = whole_ok c.value vs c.rest c.goes_on in
    let both = then_takes a.took (then_takes b.took c.took) in
    let spelled : bytes ≡ a.value ∷ (to_be_bytes w32 b.value ++ flat_map effect_bytes c.value) = all_taken bytes _ c.rest both h.0 in
    let kind : a.value ≡ 1 = eqb-true a.value 1 g.0 in
    let whole : bytes ≡ record_bytes c.value
    = spelled ∙ ap (λ (k : ℕ). k ∷ (to_be_bytes w32 b.value ++ flat_map effect_bytes c.value)) kind ∙ ap (λ (n : ℕ). 1 ∷ (to_be_bytes w32 n ++ flat_map effect_bytes c.value)) (sym c.allowed.0) in
    let allowed : IsAllowedRecord c.value = record {
      some = items_some c.value (omega (arith, c.allowed.0, b.allowed.0));
      count = omega (arith, c.allowed.0, b.allowed.1);
      each = all_from_each AllowedBehind IsAllowedEffect (λ before v p. p) None c.value c.allowed.1;
    } in
    subst (λ (w : List Effect). IsAllowedRecord w × (bytes ≡ record_bytes w)) h.1 (allowed, whole)

pub record_again : (effects : List Effect) → IsAllowedRecord effects → record_at (record_bytes effects) ≡ Ok effects
unfolding record_at record_bytes
record_again vs h =
    let tail : List ℕ = flat_map effect_bytes vs in
    let each : Each AllowedBehind None vs = each_from_all IsAllowedEffect AllowedBehind (λ before v p. p) None vs h.each in
    let last : row_at (λ last. effect_at) None (length vs) tail ≡ Ok (vs, []) = ap (row_at (λ last. effect_at) None (length vs)) (sym (append-nil tail)) ∙ (effects (length vs)).again vs [] (refl, each) in
    rw (byte.again 1 (to_be_bytes w32 (length vs) ++ tail) tt, count.again (length vs) tail (some_items vs h.some, h.count), last) refl

pub one_record : (a b : List Effect) → IsAllowedRecord a → IsAllowedRecord b → record_bytes a ≡ record_bytes b → a ≡ b
one_record a b p q same = ok_is a b (sym (record_again a p) ∙ ap record_at same ∙ record_again b q)
