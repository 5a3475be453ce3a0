-- How long the segments of a path are.
use Rattle.std.proofs.Common.{◌≡◌, ℕ, ◌<◌, ◌≤◌, ◌^◌, Bool, true, false, cond, List, [], ◌++◌, length, get_or, Option, Some, None, refl, ap, sym, ◌∙◌, arith}
use Rattle.std.specs.Prelude.{slice_get, ◌==◌, nat_lt}
use Rattle.std.specs.List.{position}
use Rattle.std.proofs.lemmas.Bool.Decides.{nat_tests}
use Rattle.std.proofs.lemmas.List.Elements.{All-get_or}
use Rattle.std.proofs.lemmas.Option.{slice_get_within, get_or_from_slice_get, slice_get-get_or}
use Rattle.wse_path.specs.declared.path.PathRefused.{PathRefused}
use Rattle.wse_path.specs.declared.path.PathRefused.TheVariants.{Empty, TooDeep}
use Rattle.wse_path.specs.Path.{Path, is_bad, refusal_within, IsPath}
use Rattle.wse_path.proofs.PathLemmas.{none_passes}
use Rattle.wse_codec.specs.Spelling.{segment_bytes}

unrefused : (none deep : Bool) (x y : PathRefused) (o : Option PathRefused) → cond none (Some x) (cond deep (Some y) o) ≡ None → (deep ≡ false) × (o ≡ None)
unrefused true deep x y o h = cc
unrefused false true x y o h = cc
unrefused false false x y o h = (refl, h)

none_bad : (ss : Path) (first : Option ℕ) → refusal_within ss first ≡ None → first ≡ None
none_bad ss (Some index) h = cc
none_bad ss None h = refl

facts : (ss : Path) → IsPath ss → (nat_lt 64 (length ss) ≡ false) × (position is_bad ss ≡ None)
facts ss h =
    let parts = unrefused (length ss == 0) (nat_lt 64 (length ss)) Empty (TooDeep (length ss)) (refusal_within ss (position is_bad ss)) h in
    (parts.0, none_bad ss (position is_bad ss) parts.1)

few_where : (n : ℕ) → nat_lt 64 n ≡ false → n ≤ 64
few_where n e = grind (arith, nat_tests)

short_where : (s : List ℕ) → is_bad s ≡ false → length s ≤ 255
short_where s e = grind (arith, nat_tests)

-- A path has at most 64 segments.
pub few : (ss : Path) → IsPath ss → length ss ≤ 64
few ss h = few_where (length ss) (facts ss h).0

-- Each has at most 255 bytes.
pub short : (ss : Path) (i : ℕ) (s : List ℕ) → IsPath ss → slice_get ss i ≡ Some s → length s < 2 ^ 8
short ss i s h e =
    let at = All-get_or (λ s. is_bad s ≡ false) ss i s (slice_get_within ss i s e) (none_passes is_bad ss (facts ss h).1) in
    let bound = short_where (get_or ss i s) at in
    omega (arith, bound, ap length (get_or_from_slice_get ss i s s e))

-- What was written at a place.
pub written_at : (ss : Path) (i : ℕ) (s before after : List ℕ) → slice_get ss i ≡ Some s → after ≡ before ++ segment_bytes s → after ≡ before ++ segment_bytes (get_or ss i [])
written_at ss i s before after e h = h ∙ ap (λ t. before ++ segment_bytes t) (sym (get_or_from_slice_get ss i s [] e))

-- A place that is none.
pub no_place : (ss : Path) (i : ℕ) → i < length ss → slice_get ss i ≡ None → ⊥
no_place ss i lt e = cc (sym e ∙ slice_get-get_or ss i [] lt)
