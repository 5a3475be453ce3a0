-- Versions that rise by 1 or 2 each may rise one after the other.
use Rattle.std.proofs.Common.{◌≡◌, ℕ, ◌+◌, ◌-◌, ◌*◌, ◌^◌, ◌≤◌, true, false, cond, ◌&&◌, List, [], ◌∷◌, map, Some, refl, sym, ap, subst, ◌∙◌, arith}
use Rattle.std.specs.Prelude.{nat_le}
use Rattle.std.specs.List.{list_any, AllByRecursion}
use Rattle.std.specs.Option.{unwrap_or}
use Rattle.std.specs.Ordering.{eq_by_cmp, is_eq, is_lt, ordering_reverse}
use Rattle.std.specs.declared.cmp.Ordering.TheVariants.{Less}
use Rattle.std.specs.FinMap.{find, put, is_sorted}
use Rattle.std.specs.FinMap.Entries.{find-put, below_all}
use Rattle.std.specs.Cmp.Lexicographic.{lists_total, nat_list_cmp_total}
use Rattle.std.proofs.lemmas.Bool.{and_from, or_parts, or_from, le-leb}
use Rattle.wse_path.specs.Path.{Path}
use Rattle.wse_path.specs.Order.{path_cmp}
use Rattle.wse_path.specs.Versions.{Numbers, version_of, known, bumped}
use Rattle.wse_path.specs.declared.change.Numbered.{Numbered}
use Rattle.wse_path.proofs.EntryLemmas.{and_parts, less_so}
use Rattle.wse_element.specs.declared.effect.Effect.{Effect}
use Rattle.wse_element.specs.declared.effect.Effect.TheVariants.{Bump}
use Rattle.wse_element.specs.State.{StacksState}
use Rattle.wse_element.specs.Effects.{after, after_each, versions_after_each}
use Rattle.wse_element.specs.Applicable.{may_bump}
use Rattle.wse_element.specs.Numbers.{are_versions_bounded, is_known_bounded}
use Rattle.wse_history.specs.Done.{AreRises}
use Rattle.wse_history.proofs.Edited.{AreOnce}
use Rattle.wse_history.proofs.ComeLemmas.{AllCome}
use Rattle.wse_element.proofs.NumberLemmas.{Bounded, bounded_from, bounded_next, all_put, known_put}

abbrev pub bumps : List Numbered → List Effect
bumps bs = map (λ b. Bump b.path b.number) bs

-- ---- paths in their order stand once

later_not : (x y : Path) → path_cmp x y ≡ Less → eq_by_cmp path_cmp y x ≡ false
later_not x y l = ap is_eq ((lists_total nat_list_cmp_total).antisymm y x ∙ ap ordering_reverse l)

module _ {Y X : Type 0} (path : Y → Path) (value : Y → X) where
  none_later : (x : Path) (ys : List Y) → below_all path_cmp x (map (λ y. (path y, value y)) ys) ≡ true → list_any (λ q. eq_by_cmp path_cmp q x) (map path ys) ≡ false
  none_later x [] h = refl
  none_later x (y ∷ ys) h =
      let parts = and_parts (is_lt (path_cmp x (path y))) (below_all path_cmp x (map (λ z. (path z, value z)) ys)) h in
      or_from (eq_by_cmp path_cmp (path y) x) (list_any (λ q. eq_by_cmp path_cmp q x) (map path ys)) (later_not x (path y) (less_so (path_cmp x (path y)) parts.0)) (none_later x ys parts.1)

  pub once_sorted : (ys : List Y) → is_sorted path_cmp (map (λ y. (path y, value y)) ys) ≡ true → AreOnce (map path ys)
  once_sorted [] h = tt
  once_sorted (y ∷ ys) h =
      let parts = and_parts (below_all path_cmp (path y) (map (λ z. (path z, value z)) ys)) (is_sorted path_cmp (map (λ z. (path z, value z)) ys)) h in
      (none_later (path y) ys parts.0, once_sorted ys parts.1)

-- ---- each bump

less_than : (a b c : ℕ) → a ≤ b → b ≤ c → a ≤ c
less_than a b c g h = omega (arith, g, h)

same_number : (n : ℕ) → n ≤ n
same_number n = omega arith

pub known_each : (vs : Numbers) (bs : List Numbered) → known vs ≤ known (versions_after_each vs (bumps bs))
known_each vs [] = same_number (known vs)
known_each vs (b ∷ bs) = less_than _ _ _ (known_put b.path (version_of vs b.path + b.number) vs) (known_each (bumped vs b.path b.number) bs)

version_other : (vs : Numbers) (p : Path) (n : ℕ) (q : Path) → eq_by_cmp path_cmp q p ≡ false → version_of (put path_cmp p n vs) q ≡ version_of vs q
version_other vs p n q e =
    ap (λ o. unwrap_or o 0) (find-put path_cmp (lists_total nat_list_cmp_total) q p n vs)
    ∙ ap (λ b. unwrap_or (cond b (Some n) (find path_cmp q vs)) 0) e

-- the versions that are to rise are two below the top
abbrev pub AreLow : (top : ℕ) → Numbers → List Numbered → Type 0
AreLow top vs bs = AllByRecursion (λ b. version_of vs b.path + 2 ≤ top) bs

low_kept : (top : ℕ) (vs : Numbers) (p : Path) (n : ℕ) (bs : List Numbered) → list_any (λ q. eq_by_cmp path_cmp q p) (map (λ b. b.path) bs) ≡ false → AreLow top vs bs → AreLow top (put path_cmp p n vs) bs
low_kept top vs p n [] none low = tt
low_kept top vs p n (b ∷ bs) none low =
    let parts = or_parts (eq_by_cmp path_cmp b.path p) (list_any (λ q. eq_by_cmp path_cmp q p) (map (λ (x : Numbered). x.path) bs)) none in
    (subst (λ m. m + 2 ≤ top) (sym (version_other vs p n b.path parts.0)) low.0, low_kept top vs p n bs parts.1 low.1)

pub low_all : (top : ℕ) (vs : Numbers) (bs : List Numbered) → ((p : Path) → version_of vs p + 2 ≤ top) → AreLow top vs bs
low_all top vs [] low = tt
low_all top vs (b ∷ bs) low = (low b.path, low_all top vs bs low)

by_two : (v n top : ℕ) → v + 2 ≤ top → n ≤ 2 → v + n ≤ top
by_two v n top l two = omega (arith, l, two)

small_top : (n serial : ℕ) → n ≤ 2 * serial + 1 → serial ≤ 2 ^ 30 - 1 → n ≤ 2 ^ 31 - 1
small_top n serial l few = omega (arith, l, few)

pub bounded_bump : (h : StacksState) (p : Path) (by : ℕ) → Bounded h → Bounded (after h (Bump p by))
bounded_bump h p by b = bounded_next h h.records (same_number _) b

pub bumps_come : (serial : ℕ) (h : StacksState) (vs : Numbers) (bs : List Numbered) → AreOnce (map (λ b. b.path) bs) → AreRises bs → Bounded h → serial ≤ 2 ^ 30 - 1
    → are_versions_bounded serial vs ≡ true → AreLow (2 * serial + 1) vs bs → known (versions_after_each vs (bumps bs)) ≤ 2 ^ 29 → AllCome serial h vs (bumps bs)
bumps_come serial h vs [] once rises b few numbers low knows = tt
bumps_come serial h vs (x ∷ bs) once rises b few numbers low knows =
    let n = version_of vs x.path + x.number in
    let fits : n ≤ 2 * serial + 1 = by_two (version_of vs x.path) x.number (2 * serial + 1) low.0 rises.0.1 in
    let new = put path_cmp x.path n vs in
    let all : are_versions_bounded serial new ≡ true = all_put (λ m. nat_le m (2 * serial + 1)) x.path n vs (le-leb n (2 * serial + 1) fits) numbers in
    let next = after h (Bump x.path x.number) in
    let bounded = bounded_bump h x.path x.number b in (
      bounded_from next bounded,
      and_from (may_bump vs (Bump x.path x.number) && are_versions_bounded serial new) (is_known_bounded new)
          (and_from (may_bump vs (Bump x.path x.number)) (are_versions_bounded serial new) (le-leb n (2 ^ 31 - 1) (small_top n serial fits few)) all)
          (le-leb (known new) (2 ^ 29) (less_than _ _ _ (known_each new bs) knows)),
      bumps_come serial next new bs once.1 rises.1 bounded few all (low_kept (2 * serial + 1) vs x.path n bs once.0 low.1) knows,
    )

pub after_bumps : (h : StacksState) (bs : List Numbered) → (after_each h (bumps bs)).records ≡ h.records
after_bumps h [] = refl
after_bumps h (b ∷ bs) = after_bumps (after h (Bump b.path b.number)) bs
