-- Splices of a UTF-8 text leave UTF-8.
use Rattle.std.proofs.Common.{ℕ, ◌-◌, List, [], ◌∷◌, ◌++◌, length, take, drop, subst, sym}
use Rattle.std.specs.List.{All}
use Rattle.std.specs.Str.{IsCharBoundary, IsUtf8}
use Rattle.std.proofs.lemmas.List.Elements.{All-head, All-tail}
use Rattle.std.proofs.lemmas.Str.{IsCharBoundary-start, IsUtf8-append, IsUtf8-between, IsUtf8-drop}
use Rattle.wse_splice.specs.declared.splice.Splice.{Splice}
use Rattle.wse_splice.specs.Splice.{Fits, LieBetweenCharacters, spliced}
use Rattle.wse_splice.proofs.SpliceLemmas.{FitsFrom, FitsFrom-start, spliced_from, spliced_from-start, spliced_from-nil, spliced_from-cons}

abbrev Between : List ℕ → Splice → Type 0
Between old s = IsCharBoundary old s.start × IsCharBoundary old s.end

abbrev HasText : Splice → Type 0
HasText s = IsUtf8 s.text

IsUtf8-spliced_from : (old : List ℕ) (ss : List Splice) (d : ℕ) → IsUtf8 old → IsCharBoundary old d → FitsFrom d ss (length old) → All (Between old) ss → All HasText ss → IsUtf8 (spliced_from old ss d)
IsUtf8-spliced_from old [] d utf8 boundary fits between texts =
    subst IsUtf8 (sym (spliced_from-nil old d fits)) (IsUtf8-drop old d utf8 boundary)
IsUtf8-spliced_from old (s ∷ ss) d utf8 boundary fits between texts =
    let here = All-head (Between old) s ss between in
    let text = All-head HasText s ss texts in
    let kept = IsUtf8-between old d s.start utf8 fits.0 boundary here.0 in
    let others = IsUtf8-spliced_from old ss s.end utf8 here.1 fits.2 (All-tail (Between old) s ss between) (All-tail HasText s ss texts) in
    subst IsUtf8 (sym (spliced_from-cons old d s ss fits))
    (IsUtf8-append (take (s.start - d) (drop d old) ++ s.text) (spliced_from old ss s.end) (IsUtf8-append (take (s.start - d) (drop d old)) s.text kept text) others)

pub IsUtf8-spliced : (old : List ℕ) (ss : List Splice) → Fits ss (length old) → IsUtf8 old → LieBetweenCharacters old ss → All (λ (s : Splice). IsUtf8 s.text) ss → IsUtf8 (spliced old ss)
IsUtf8-spliced old ss fits utf8 between texts =
    subst IsUtf8 (spliced_from-start old ss) (IsUtf8-spliced_from old ss 0 utf8 (IsCharBoundary-start old utf8) (FitsFrom-start ss (length old) fits) between texts)
