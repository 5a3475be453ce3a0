-- Bytes that are written over others and past their end.
use Rattle.std.proofs.Common.{◌≡◌, ◌⊎◌, inl, inr, min, ℕ, ◌+◌, ◌-◌, ◌≤◌, List, [], ◌++◌, length, take, drop, replicate, sym, ◌∙◌, ap, arith, append_assoc, length-append, length-drop}
use Rattle.std.proofs.lemmas.List.{take-append-le, take_all, drop_all, append-nil, take-append-drop, length-take-le, take_rest}
use Rattle.std.proofs.Math.Seq.{drop-append_seam}
use Rattle.std.proofs.lemmas.Bool.{cases_order}
use Rattle.wse_disk.specs.Reading.{patched}
use Rattle.wse_disk.specs.Replay.{laid_bytes}

no_gap : (at : ℕ) (bytes old : List ℕ) → at ≤ length old → take at old ++ bytes ++ drop (at + length bytes) old ≡ laid_bytes at bytes old
no_gap at bytes old le =
    let none : at - length old ≡ 0 = omega arith in
    sym (ap (λ (n : ℕ). take at old ++ replicate n 0 ++ bytes ++ drop (at + length bytes) old) none
    ∙ ap (λ (l : List ℕ). l ++ bytes ++ drop (at + length bytes) old) (append-nil (take at old)))

-- Where there is no gap, laid bytes are patched.
pub laid_is_patched : (at : ℕ) (bytes old : List ℕ) → at ≤ length old → laid_bytes at bytes old ≡ patched at bytes old
laid_is_patched at bytes old le = sym (no_gap at bytes old le)

-- The bytes past the end are appended, and then those before it are written over what was there.
pub appended : (at over : ℕ) (bytes old : List ℕ) → at ≤ length old → (over ≡ length bytes) ⊎ (at + over ≡ length old) → over ≤ length bytes → at + over ≤ length old
    → patched at (take over bytes) (old ++ drop over bytes) ≡ laid_bytes at bytes old
appended at over bytes old le (inl whole) small fits =
    let rest : drop over bytes ≡ [] = drop_all over bytes (omega arith) in
    let all : take over bytes ≡ bytes = take_all over bytes (omega arith) in
    ap (λ (l : List ℕ). patched at (take over bytes) (old ++ l)) rest
    ∙ ap (λ (l : List ℕ). patched at (take over bytes) l) (append-nil old)
    ∙ ap (λ (l : List ℕ). patched at l old) all
    ∙ no_gap at bytes old le
appended at over bytes old le (inr past) small fits =
    let rest = drop over bytes in
    let count : at + length (take over bytes) ≡ length old = omega (arith, length-take-le over bytes small) in
    let none : drop (at + length bytes) old ≡ [] = drop_all (at + length bytes) old (omega arith) in
    ap (λ (l : List ℕ). l ++ take over bytes ++ drop (at + length (take over bytes)) (old ++ rest)) (take-append-le at old rest le)
    ∙ ap (λ (n : ℕ). take at old ++ take over bytes ++ drop n (old ++ rest)) count
    ∙ ap (λ (l : List ℕ). take at old ++ take over bytes ++ l) (drop-append_seam old rest)
    ∙ append_assoc (take at old) (take over bytes) rest
    ∙ ap (λ (l : List ℕ). take at old ++ l) (take-append-drop over bytes)
    ∙ sym (append-nil (take at old ++ bytes))
    ∙ sym (ap (λ (l : List ℕ). take at old ++ bytes ++ l) none)
    ∙ no_gap at bytes old le

either : (over n m : ℕ) → over ≡ min n m → (over ≡ n) ⊎ (over ≡ m)
either over n m is = elim (cases_order n m) [
  | inl same ↦ inl (omega arith)
  | inr (inl below) ↦ inl (omega arith)
  | inr (inr above) ↦ inr (omega arith)
]

length_patched : (at : ℕ) (bytes old : List ℕ) → at + length bytes ≤ length old → length (patched at bytes old) ≡ length old
length_patched at bytes old fits =
    omega (arith, length-append (take at old ++ bytes) (drop (at + length bytes) old), length-append (take at old) bytes, length-take-le at old (omega arith), length-drop (at + length bytes) old)

-- So do the two calls that do it.
pub laid_near : (at over n : ℕ) (bytes old longer new : List ℕ) → at ≤ length old → over ≡ min (length bytes) (length old - at) → longer ≡ old ++ take (length bytes - over) (drop over bytes) → n ≡ length longer
    → new ≡ patched at (take over bytes) longer → take n (new ++ drop (length new) longer) ≡ laid_bytes at bytes old
laid_near at over n bytes old longer new le is more count done =
    let cases = either over (length bytes) (length old - at) is in
    let plain : longer ≡ old ++ drop over bytes = more ∙ ap (λ (l : List ℕ). old ++ l) (take_rest bytes over) in
    let few : over ≤ length bytes = omega arith in
    let short = length-take-le over bytes few in
    let fits : at + over ≤ length old = omega arith in
    let within : at + length (take over bytes) ≤ length longer = omega (arith, short, fits, ap length plain, length-append old (drop over bytes)) in
    let same : length new ≡ length longer = ap length done ∙ length_patched at (take over bytes) longer within in
    ap (λ (l : List ℕ). take n (new ++ l)) (drop_all (length new) longer (omega arith))
    ∙ ap (take n) (append-nil new)
    ∙ take_all n new (omega arith)
    ∙ done
    ∙ ap (patched at (take over bytes)) plain
    ∙ appended at over bytes old le (ends cases) few fits
  where
    ends : (over ≡ length bytes) ⊎ (over ≡ length old - at) → (over ≡ length bytes) ⊎ (at + over ≡ length old)
    ends (inl whole) = inl whole
    ends (inr past) = inr (omega arith)
