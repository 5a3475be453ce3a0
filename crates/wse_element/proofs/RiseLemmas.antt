-- Paths of parts rise where each is smaller than the next.
use Rattle.std.proofs.Common.{◌≡◌, ℕ, zero, suc, ◌+◌, ◌-◌, ◌<◌, ◌≤◌, Bool, true, false, ◌&&◌, List, [], ◌∷◌, length, get_or, drop, refl, sym, ap, subst, ◌∙◌, arith, length-drop}
use Rattle.std.proofs.lemmas.List.{get_or_default}
use Rattle.std.specs.FinMap.{is_sorted}
use Rattle.std.specs.FinMap.Entries.{below_all}
use Rattle.std.specs.Ordering.{is_lt}
use Rattle.std.specs.declared.cmp.Ordering.TheVariants.{Less}
use Rattle.wse_path.specs.Path.{Path}
use Rattle.wse_path.specs.Order.{path_cmp}
use Rattle.wse_path.proofs.EntryLemmas.{and_parts, less_so}
use Rattle.wse_path.proofs.PathOrder.{total}
use Rattle.wse_element.specs.Record.{RecordPart, by_path}

module _ {X : Type 0} where
  -- what is below a path is below all that comes behind it
  pub below_less : (x y : Path) (es : List (Path × X)) → path_cmp x y ≡ Less → below_all path_cmp y es ≡ true → below_all path_cmp x es ≡ true
  below_less x y [] l h = refl
  below_less x y (e ∷ es) l h =
      let parts = and_parts (is_lt (path_cmp y e.0)) (below_all path_cmp y es) h in
      λ i. is_lt (total.trans x y e.0 l (less_so (path_cmp y e.0) parts.0) i) && below_less x y es l parts.1 i

  sorted_cons : (e f : Path × X) (es : List (Path × X)) → is_sorted path_cmp (e ∷ f ∷ es) ≡ (is_lt (path_cmp e.0 f.0) && is_sorted path_cmp (f ∷ es))
  sorted_cons e f es =
      let rest = below_all path_cmp f.0 es && is_sorted path_cmp es in
      elim (is_lt (path_cmp e.0 f.0)) as (λ b. is_lt (path_cmp e.0 f.0) ≡ b → ((b && below_all path_cmp e.0 es) && rest) ≡ (b && rest)) [
        | true ↦ λ l.
            elim rest as (λ s. rest ≡ s → (below_all path_cmp e.0 es && s) ≡ s) [
              | true ↦ λ h. ap (λ b. b && true) (below_less e.0 f.0 es (less_so _ l) (and_parts (below_all path_cmp f.0 es) (is_sorted path_cmp es) h).0)
              | false ↦ λ h. elim (below_all path_cmp e.0 es) as (λ b. (b && false) ≡ false) [ true ↦ refl | false ↦ refl ]
            ] refl
        | false ↦ λ l. refl
      ] refl

step : (parts : List RecordPart) (k : ℕ) (d : RecordPart) → suc k < length parts → is_sorted path_cmp (by_path (drop k parts)) ≡ (is_lt (path_cmp (get_or parts k d).path (get_or parts (suc k) d).path) && is_sorted path_cmp (by_path (drop (suc k) parts)))
step [] k d l = absurd (omega arith)
step (x ∷ []) k d l = absurd (omega arith)
step (x ∷ y ∷ more) zero d l = sorted_cons (x.path, x) (y.path, y) (by_path more)
step (x ∷ y ∷ more) (suc k) d l = step (y ∷ more) k d (omega arith)

-- one more part is looked at
pub rise_more : (parts : List RecordPart) (at : ℕ) (d : RecordPart) → 1 ≤ at → at < length parts → is_sorted path_cmp (by_path (drop (at - 1) parts)) ≡ (is_lt (path_cmp (get_or parts (at - 1) d).path (get_or parts at d).path) && is_sorted path_cmp (by_path (drop at parts)))
rise_more parts at d some l =
    subst (λ j. is_sorted path_cmp (by_path (drop (at - 1) parts)) ≡ (is_lt (path_cmp (get_or parts (at - 1) d).path (get_or parts j d).path) && is_sorted path_cmp (by_path (drop j parts)))) {x = suc (at - 1)} (omega arith) (step parts (at - 1) d (omega arith))

short : (parts : List RecordPart) → length parts ≤ 1 → is_sorted path_cmp (by_path parts) ≡ true
short [] l = refl
short (x ∷ []) l = refl
short (x ∷ y ∷ more) l = absurd (omega arith)

-- the last part, or none, is left
pub rise_end : (parts : List RecordPart) (at : ℕ) → length parts ≤ at → is_sorted path_cmp (by_path (drop (at - 1) parts)) ≡ true
rise_end parts at l = short (drop (at - 1) parts) (simp length-drop (omega arith))

-- the next part's path is greater
pub rise_kept : (parts : List RecordPart) (at : ℕ) (x y : RecordPart) (r : Bool) → 1 ≤ at → at < length parts → x ≡ get_or parts (at - 1) x → y ≡ get_or parts at y → r ≡ is_lt (path_cmp x.path y.path) → r ≡ true → is_sorted path_cmp (by_path (drop (at - 1) parts)) ≡ is_sorted path_cmp (by_path parts) → is_sorted path_cmp (by_path (drop (at + 1 - 1) parts)) ≡ is_sorted path_cmp (by_path parts)
rise_kept parts at x y r some l first second test holds kept =
    let there = get_or_default parts at x y l ∙ sym second in
    let less = (λ i. is_lt (path_cmp (sym first i).path (there i).path)) ∙ sym test ∙ holds in
    let here : at + 1 - 1 ≡ at = omega arith in
    ap (λ k. is_sorted path_cmp (by_path (drop k parts))) here
    ∙ sym (ap (λ b. b && is_sorted path_cmp (by_path (drop at parts))) less)
    ∙ sym (rise_more parts at x some l)
    ∙ kept
