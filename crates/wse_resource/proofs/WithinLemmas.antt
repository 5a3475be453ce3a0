-- Paths at and under others, and where they go.
use Rattle.std.proofs.Common.{◌≡◌, ◌+◌, ◌-◌, ◌<◌, ◌≤◌, Bool, true, false, ◌&&◌, [], ◌∷◌, ◌++◌, length, take, drop, ◌↔◌, IsTrue, ◌⊎◌, inl, inr, refl, sym, ap, ◌∙◌, arith, length-append, length-drop, append_assoc}
use Rattle.std.proofs.Math.Seq.{take-append_seam, drop-append_seam, take-append-add, drop-length}
use Rattle.std.proofs.lemmas.Bool.{and_parts, and_from, or_cases, or_left, or_right, ltb-true, lt-ltb, cases_lt, false_from_ne_true, true≢false}
use Rattle.std.proofs.lemmas.List.{take-append-drop, append-nil, append_cancel_left}
use Rattle.std.proofs.lemmas.Slice.Eq.{slice_eq-Decides, bytes_eq-Decides}
use Rattle.std.specs.Cmp.Lexicographic.{pointwise}
use Rattle.std.specs.Ordering.{eq_by_cmp}
use Rattle.std.specs.Str.{bytes_eq}
use Rattle.wse_path.specs.Path.{Path, is_under}
use Rattle.wse_path.specs.Order.{path_cmp}
use Rattle.wse_path.proofs.TreeLemmas.{same_path, tied_itself}
use Rattle.wse_resource.specs.Table.{is_within, moved}

pub tied_same : (p q : Path) → p ≡ q → eq_by_cmp path_cmp p q ≡ true
tied_same p q e = ap (eq_by_cmp path_cmp p) (sym e) ∙ tied_itself p

pub same_bool : (a b : Bool) → (a ≡ true → b ≡ true) → (b ≡ true → a ≡ true) → a ≡ b
same_bool true b f g = sym (f refl)
same_bool false b f g = sym (false_from_ne_true b (λ t. true≢false (sym (g t))))

-- a test of equal paths is the test of their order
pub tied_is : (p q : Path) (b : Bool) → (IsTrue b ↔ (p ≡ q)) → eq_by_cmp path_cmp p q ≡ b
tied_is p q b same = same_bool _ b (λ t. same.1 (same_path p q t)) (λ t. tied_same p q (same.0 t))

pointwise_itself : (p : Path) → pointwise bytes_eq p p ≡ true
pointwise_itself p = (slice_eq-Decides bytes_eq-Decides p p _ refl).1 refl

-- a path under another is that one with more behind it
pub under_parts : (p q : Path) → is_under p q ≡ true → (length q < length p) × (p ≡ q ++ drop (length q) p)
under_parts p q h =
    let parts = and_parts _ _ h in
    (ltb-true _ _ parts.0, sym (take-append-drop (length q) p) ∙ ap (λ t. t ++ drop (length q) p) (sym ((slice_eq-Decides bytes_eq-Decides q (take (length q) p) _ refl).0 parts.1)))

pub under_from : (p q s : Path) → 0 < length s → p ≡ q ++ s → is_under p q ≡ true
under_from p q s some e =
    ap (λ x. is_under x q) e
    ∙ and_from _ _ (lt-ltb (length q) (length (q ++ s)) (omega (arith, length-append q s))) (ap (pointwise bytes_eq q) (take-append_seam q s) ∙ pointwise_itself q)

pub within_parts : (p q : Path) → is_within p q ≡ true → p ≡ q ++ drop (length q) p
within_parts p q h =
    elim (or_cases (eq_by_cmp path_cmp p q) (is_under p q) h) [
      | inl tied ↦ let same = same_path p q tied in same ∙ sym (append-nil q) ∙ ap (λ t. q ++ t) (sym (ap (drop (length q)) same ∙ drop-length q))
      | inr under ↦ (under_parts p q under).1
    ]

within_append : (q s : Path) → is_within (q ++ s) q ≡ true
within_append q [] = or_left _ _ (tied_same (q ++ []) q (append-nil q))
within_append q (x ∷ s) = or_right _ _ (under_from (q ++ x ∷ s) q (x ∷ s) (omega arith) refl)

pub within_from : (p q s : Path) → p ≡ q ++ s → is_within p q ≡ true
within_from p q s e = ap (λ x. is_within x q) e ∙ within_append q s

pub under_within : (p q : Path) → is_under p q ≡ true → is_within p q ≡ true
under_within p q h = or_right _ _ h

-- ---- where a path goes

pub moved_within : (from to q : Path) → is_within (moved from to q) to ≡ true
moved_within from to q = within_append to (drop (length from) q)

-- what goes there and back is where it was
pub moved_back : (from to q : Path) → is_within q from ≡ true → moved to from (moved from to q) ≡ q
moved_back from to q h = ap (λ t. from ++ t) (drop-append_seam to (drop (length from) q)) ∙ sym (within_parts q from h)

-- a path is where another goes just if it lies there and comes from that one
pub moved_tied : (from to q s : Path) → is_within s from ≡ true → eq_by_cmp path_cmp q (moved from to s) ≡ (is_within q to && eq_by_cmp path_cmp (moved to from q) s)
moved_tied from to q s h =
    same_bool _ _
    (λ t. let same = same_path q (moved from to s) t in
    and_from _ _ (ap (λ x. is_within x to) same ∙ moved_within from to s) (tied_same _ _ (ap (moved to from) same ∙ moved_back from to s h)))
    (λ t. let parts = and_parts _ _ t in
    tied_same _ _ (sym (moved_back to from q parts.0) ∙ ap (moved from to) (same_path _ _ parts.1)))

-- what lies under another path still does so where both go
pub moved_under : (from to p q : Path) → is_within p from ≡ true → is_within q from ≡ true → is_under p q ≡ true → is_under (moved from to p) (moved from to q) ≡ true
moved_under from to p q hp hq h =
    let a = drop (length from) p in
    let b = drop (length from) q in
    let d = drop (length q) p in
    let parts = under_parts p q h in
    let whole : from ++ a ≡ from ++ (b ++ d) = sym (within_parts p from hp) ∙ parts.1 ∙ ap (λ t. t ++ d) (within_parts q from hq) ∙ append_assoc from b d in
    under_from (to ++ a) (to ++ b) d (omega (arith, length-drop (length q) p)) (ap (λ t. to ++ t) (append_cancel_left from a (b ++ d) whole) ∙ sym (append_assoc to b d))

-- ---- two paths above one

-- of two paths above one, the longer is at or under the shorter
longer_within : (p q r s t : Path) → p ≡ q ++ s → p ≡ r ++ t → length r ≤ length q → q ≡ r ++ take (length q - length r) t
longer_within p q r s t e f l =
    let n = length q - length r in
    let split : length q ≡ length r + n = omega arith in
    sym (take-append_seam q s)
    ∙ ap (take (length q)) (sym e ∙ f)
    ∙ ap (λ m. take m (r ++ t)) split
    ∙ take-append-add r t n

-- what is under a path, and at or under another: the first is at or under the other, or the other under the first
pub above_both : (p q r : Path) → is_under p q ≡ true → is_within p r ≡ true → (is_within q r ≡ true) ⊎ (is_under r q ≡ true)
above_both p q r h w =
    let s = drop (length q) p in
    let t = drop (length r) p in
    let e = (under_parts p q h).1 in
    let f = within_parts p r w in
    elim (cases_lt (length q) (length r)) [
      | inl shorter ↦
          let is = longer_within p r q t s f e (omega arith) in
          inr (under_from r q (take (length r - length q) s) (omega (arith, ap length is, length-append q (take (length r - length q) s))) is)
      | inr longer ↦ inl (within_from q r _ (longer_within p q r s t e f longer))
    ]

pub under_trans : (p q r : Path) → is_under p q ≡ true → is_within q r ≡ true → is_within p r ≡ true
under_trans p q r h w =
    let s = drop (length q) p in
    let t = drop (length r) q in
    within_from p r (t ++ s) ((under_parts p q h).1 ∙ ap (λ x. x ++ s) (within_parts q r w) ∙ append_assoc r t s)
