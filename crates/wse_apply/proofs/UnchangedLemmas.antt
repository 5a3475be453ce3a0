-- Splices that put what stands at their ranges already leave the text.
use Rattle.std.proofs.Common.{◌≡◌, ℕ, ◌+◌, ◌-◌, ◌<◌, ◌≤◌, true, ◌&&◌, List, [], ◌∷◌, ◌++◌, length, take, drop, get_or, Some, sym, ap, ◌∙◌, append_assoc, arith}
use Rattle.std.specs.List.{list_all}
use Rattle.std.specs.Prelude.{if◌then◌else◌}
use Rattle.std.proofs.lemmas.Bool.{and_parts}
use Rattle.std.proofs.lemmas.List.{take-append-drop, drop-drop}
use Rattle.std.proofs.lemmas.Slice.Eq.{bytes_eq-Decides}
use Rattle.wse_path.specs.Path.{Path}
use Rattle.wse_path.proofs.GatheredLemmas.{is_same_itself}
use Rattle.wse_splice.specs.declared.splice.Splice.{Splice}
use Rattle.wse_splice.specs.Splice.{Fits, spliced}
use Rattle.wse_splice.proofs.SpliceLemmas.{FitsFrom, FitsFrom-start, spliced_from, spliced_from-start, spliced_from-nil, spliced_from-cons}
use Rattle.wse_apply.specs.Draft.{change_of}
use Rattle.wse_apply.specs.Unchanged.{leaves}
use Rattle.wse_apply.proofs.StepLemmas.{drop_next}

-- the text from one place up to another, and what stands behind
parts : (a b : ℕ) (old : List ℕ) → a ≤ b → take (b - a) (drop a old) ++ drop b old ≡ drop a old
parts a b old l =
    let e : b ≡ a + (b - a) = omega arith in
    ap (λ t. take (b - a) (drop a old) ++ t) (ap (λ n. drop n old) e ∙ sym (drop-drop (b - a) a old))
    ∙ take-append-drop (b - a) (drop a old)

left_from : (old : List ℕ) (d : ℕ) (ss : List Splice) → FitsFrom d ss (length old) → list_all (leaves old) ss ≡ true → spliced_from old ss d ≡ drop d old
left_from old d [] fits h = spliced_from-nil old d fits
left_from old d (s ∷ ss) fits h =
    let each = and_parts (leaves old s) (list_all (leaves old) ss) h in
    let text : take (s.end - s.start) (drop s.start old) ≡ s.text = (bytes_eq-Decides (take (s.end - s.start) (drop s.start old)) s.text).0 each.0 in
    spliced_from-cons old d s ss fits
    ∙ append_assoc (take (s.start - d) (drop d old)) s.text (spliced_from old ss s.end)
    ∙ (λ i. take (s.start - d) (drop d old) ++ (sym text i ++ left_from old s.end ss fits.2 each.1 i))
    ∙ ap (λ t. take (s.start - d) (drop d old) ++ t) (parts s.start s.end old fits.1)
    ∙ parts d s.start old fits.0

pub left_all : (old : List ℕ) (ss : List Splice) → Fits ss (length old) → list_all (leaves old) ss ≡ true → spliced old ss ≡ old
left_all old ss fits h = sym (spliced_from-start old ss) ∙ left_from old 0 ss (FitsFrom-start ss (length old) fits) h

-- no change of a content that stays
pub none_changed : (p : Path) (bytes : List ℕ) → change_of p bytes bytes ≡ []
none_changed p bytes = ap (λ b. if b then [] else record { path = p; before = Some bytes; after = Some bytes } ∷ []) (is_same_itself (Some bytes))

-- ---- one splice more

pub leave_next : (old : List ℕ) (ss : List Splice) (i : ℕ) (s : Splice) → i < length ss → s ≡ get_or ss i s → list_all (leaves old) (drop i ss) ≡ (leaves old s && list_all (leaves old) (drop (i + 1) ss))
leave_next old ss i s l e = ap (list_all (leaves old)) (drop_next ss i s l e)
